-- The definitions computed on small lists.
use Rattle.obs_epoch.specs.declared.setup.Gather.TheVariants as gathers
use Rattle.obs_epoch.proofs.Names.{Glonass, tow_of, ◌≡◌, ℕ, ◌+◌, ◌*◌, ◌^◌, Bool, true, false, List, [], ◌∷◌, map, refl, Option, Some, None, pos, ℤ, Gps, GatherSetup, Heard, HeardCell, timed, counts_of, no_values, EpochValue, Cell, of_two, plan_with, week, first_week, every_epoch, closed_times, epoch_at, epochs}
use Rattle.obs_epoch.specs.declared.week.Start.TheVariants.{Week}

abbrev setup : GatherSetup
setup = record { plan = plan_with (of_two (2 ∷ []) (2 ∷ []) []); start = Week 2300; station = Some 7; gather = gathers.Bit; initial = no_values; leap_seconds = 18; choice = every_epoch }

abbrev observed : ℕ → Bool → List HeardCell → Heard
observed tow more cells = record { station = Some 7; tow = Some tow; more = Some more; cells = cells; unlisted = 0; point = None }

abbrev other : Bool → Heard
other more = record { station = Some 7; tow = None; more = Some more; cells = []; unlisted = 0; point = None }

-- Thursday 11:13:29.001 in Moscow, and Sunday 00:00 there, which is Saturday 21:00 UTC.
thursday : tow_of Glonass 18 (4 * 2 ^ 27 + 40_409_001) ≡ 375_227_001
thursday = refl

sunday : tow_of Glonass 18 0 ≡ 594_018_000
sunday = refl

-- Two weeks, exactly half a week ahead, and more than that.
abbrev four : List Heard
four = observed 604_799_000 false [] ∷ observed 0 false [] ∷ observed 302_400_000 false [] ∷ observed 1 false [] ∷ []

pub four_times : map (λ x. x.time) (timed setup four) ≡ Some (2300 * week + 604_799_000) ∷ Some (2301 * week) ∷ Some (2301 * week + 302_400_000) ∷ None ∷ []
unfolding first_week
four_times = refl

-- An unsupported message closes the epoch, and the last message is late.
abbrev closing : List Heard
closing = observed 5 true [] ∷ observed 5 true [] ∷ other false ∷ observed 5 true [] ∷ []

pub closing_times : map (λ x. x.time) (timed setup closing) ≡ Some (2300 * week + 5) ∷ Some (2300 * week + 5) ∷ None ∷ None ∷ []
unfolding first_week
closing_times = refl

pub not_by_bit : map (λ x. x.time) (timed (record setup { gather = gathers.Time }) closing)
    ≡ Some (2300 * week + 5) ∷ Some (2300 * week + 5) ∷ None ∷ Some (2300 * week + 5) ∷ []
unfolding first_week
not_by_bit = refl

abbrev cell : Option ℤ → Option ℕ → HeardCell
cell l least = record {
  satellite = record { system = Gps; id = 5 };
  signal = record { system = Gps; index = 2 };
  c = Some (pos 1);
  l = l;
  d = None;
  s = None;
  lock = record { least = least; upper = Some 4 };
  half_cycle = false;
}

abbrev small_lli : List EpochValue → List (List ℕ)
small_lli es = map (λ (e : EpochValue). map (λ (m : Cell). m.lli) e.cells.gps) es

-- A lock of 4,096 ms, then an invalid phase, then a lock of 2,048 ms.
abbrev three : List Heard
three =
    observed 1000 false (cell (Some (pos 1)) (Some 4096) ∷ []) ∷ observed 2000 false (cell None (Some 0) ∷ [])
    ∷ observed 3000 true (cell (Some (pos 1)) (Some 2048) ∷ cell None None ∷ []) ∷ []

pub three_llis : small_lli (epochs setup (timed setup three)) ≡ (0 ∷ []) ∷ (0 ∷ []) ∷ (1 ∷ []) ∷ []
unfolding first_week
three_llis = refl

pub two_closed : small_lli (map (epoch_at setup (timed setup three)) (closed_times setup (timed setup three))) ≡ (0 ∷ []) ∷ (0 ∷ []) ∷ []
unfolding first_week
two_closed = refl

pub one_repeated : counts_of setup [] (cell None None ∷ cell None (Some 1) ∷ []) ≡ record { kept = 1; without_channel = 0; skipped = 0; repeated = 1; crowded = 0 }
unfolding first_week
one_repeated = refl
