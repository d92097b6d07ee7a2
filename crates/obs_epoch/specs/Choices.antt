-- The choice of epochs by their times.
use Rattle.std.specs.Prelude.{ℕ, ◌+◌, ◌-◌, ◌*◌, ◌%◌, ◌^◌, ◌&&◌, Bool, true, nat_le, nat_lt, None}
use Rattle.std.specs.Option.{option_map_or}
use Rattle.obs_epoch.specs.declared.choice.Choice.{Choice}

-- The nominal time of an epoch of time t, both in milliseconds since 1980-01-06 00:00:00 GPS time.
abbrev pub nominal : Choice → ℕ → ℕ
nominal c t = t + c.tolerance

abbrev pub in_window : Choice → ℕ → Bool
in_window c t = nat_le c.from (nominal c t) && nat_lt (nominal c t) c.until

-- A multiple of the interval is at most the tolerance before or after the time. Without an interval every time is on the
-- grid.
abbrev pub on_grid : Choice → ℕ → Bool
on_grid c t = option_map_or (λ interval. nat_le (nominal c t % interval) (2 * c.tolerance)) c.interval true

abbrev pub is_chosen : Choice → ℕ → Bool
is_chosen c t = in_window c t && on_grid c t

-- The default: all times, no interval, and a tolerance of 5 ms.
abbrev pub every_epoch : Choice
every_epoch = record { from = 0; until = 2 ^ 64 - 1; interval = None; tolerance = 5 }
