-- What satellites and their signals have in epochs: numbers of values and of marks, strengths, and the epochs with a
-- line.
use Rattle.std.specs.Prelude.{ℕ, ℤ, ◌+◌, ◌/◌, ◌%◌, ◌==◌, ◌&&◌, nat_lt, Bool, List, [], ◌∷◌, length, map}
use Rattle.std.specs.Prelude.{filter, flat_map, get_or, unsigned_abs, is_some, Option, if◌then◌else◌}
use Rattle.std.specs.List.{count_by, list_any, sum_by}
use Rattle.std.specs.Option.{option_map_or}
use Rattle.gnss_obs.specs.Plans.{below}
use Rattle.gnss_system.specs.declared.system.System.{System}
use Rattle.gnss_system.specs.Satellites.{Satellite}
use Rattle.gnss_system.specs.Systems.{is_system}
use Rattle.rinex_file.specs.FileValues.{time_stamped}
use Rattle.rinex_file.specs.Value.{SatelliteRow, SignalValues, Stamped, no_signal_values}
use Rattle.rinex_inspect.specs.Gaps.{first_of}
use Rattle.rinex_inspect.specs.declared.tally.Presence.{Presence}
use Rattle.rinex_inspect.specs.declared.tally.Tally.{Tally}

-- ---- the values of a signal

-- the marks of a phase: bit 0 of the indicator if lock was lost, and bit 1 if it may be off by half a cycle
abbrev pub is_lost : SignalValues → Bool
is_lost e = is_some e.l && (e.lli % 2 == 1)

abbrev pub is_half : SignalValues → Bool
is_half e = is_some e.l && (e.lli / 2 % 2 == 1)

-- a strength in 0.001 dB-Hz, which is positive in a file; 0 without one
abbrev pub strength_of : Option ℤ → ℕ
strength_of s = option_map_or unsigned_abs s 0

-- the numbers of values and of marks, and the sum of the strengths
abbrev pub tally : List SignalValues → Tally
tally es = record {
  c = count_by (λ e. is_some e.c) es;
  l = count_by (λ e. is_some e.l) es;
  d = count_by (λ e. is_some e.d) es;
  s = count_by (λ e. is_some e.s) es;
  lost = count_by is_lost es;
  half = count_by is_half es;
  strength = sum_by (λ e. strength_of e.s) es;
}

abbrev pub no_tally : Tally
no_tally = record { c = 0; l = 0; d = 0; s = 0; lost = 0; half = 0; strength = 0 }

abbrev pub has_values : Tally → Bool
has_values t = nat_lt 0 (t.c + t.l + t.d + t.s)

-- the sum of the tallies of indexes below n
abbrev pub total : (ℕ → Tally) → ℕ → Tally
total f n = record {
  c = sum_by (λ i. (f i).c) (below n);
  l = sum_by (λ i. (f i).l) (below n);
  d = sum_by (λ i. (f i).d) (below n);
  s = sum_by (λ i. (f i).s) (below n);
  lost = sum_by (λ i. (f i).lost) (below n);
  half = sum_by (λ i. (f i).half) (below n);
  strength = sum_by (λ i. (f i).strength) (below n);
}

-- ---- satellites

-- the satellite at an index of its system, counted from 0
abbrev pub satellite_at : System → ℕ → Satellite
satellite_at s i = record { system = s; id = i + 1 }

abbrev pub is_row_of : Satellite → SatelliteRow → Bool
is_row_of s r = is_system s.system r.system && (r.row.satellite == s.id)

-- the lines of epochs
abbrev pub all_rows : List Stamped → List SatelliteRow
all_rows es = flat_map (λ e. e.rows) es

-- what the planned signal at index k has in a line
abbrev pub values_in : ℕ → SatelliteRow → SignalValues
values_in k r = get_or r.row.signal_values k no_signal_values

-- the tally of a satellite and the planned signal at index k in epochs
abbrev pub tally_of : Satellite → ℕ → List Stamped → Tally
tally_of s k es = tally (map (values_in k) (filter (is_row_of s) (all_rows es)))

-- ---- the epochs of a satellite

abbrev pub has_line : Satellite → Stamped → Bool
has_line s e = list_any (is_row_of s) e.rows

-- the times of the epochs in which a satellite has a line
abbrev pub times_of : Satellite → List Stamped → List ℕ
times_of s es = map time_stamped (filter (has_line s) es)

-- the last of these times
abbrev pub last_of : List ℕ → ℕ
last_of [] = 0
last_of (t ∷ []) = t
last_of (t ∷ (u ∷ ts)) = last_of (u ∷ ts)

-- the items from the first one that passes a test, and those up to the last one
abbrev pub from_first : {A : Type 0} → (A → Bool) → List A → List A
from_first p [] = []
from_first p (x ∷ xs) = if p x then x ∷ xs else from_first p xs

abbrev pub up_to_last : {A : Type 0} → (A → Bool) → List A → List A
up_to_last p [] = []
up_to_last p (x ∷ xs) = if list_any p (x ∷ xs) then x ∷ up_to_last p xs else []

-- the number of epochs in which a satellite has a line, that of all from the first to the last of them, and their times
abbrev pub presence_of : Satellite → List Stamped → Presence
presence_of s es = record {
  epochs = length (times_of s es);
  span = length (up_to_last (has_line s) (from_first (has_line s) es));
  first = first_of (times_of s es);
  last = last_of (times_of s es);
}
