-- The intervals of epochs, in milliseconds.
use Rattle.std.specs.Prelude.{ℕ, ◌≡◌, ◌≤◌, ◌%◌}
use Rattle.gnss_obs.specs.Weeks.{day}

-- 0.1 s to a day, and a divisor of a day.
abbrev pub IsInterval : ℕ → Type 0
IsInterval n = (100 ≤ n) × (day % n ≡ 0)
