-- The row in which the lines of satellites are written.
use Rattle.std.specs.Prelude.{◌≡◌, ℕ, ◌<◌, ◌≤◌, ◌^◌, List, [], ◌∷◌, ◌++◌, All, drop, length, flat_map, get_or}
use Rattle.std.specs.Int.{bit_at}
use Rattle.gnss_system.specs.Signals.{most_signals}
use Rattle.rinex_file.specs.FileValues.{HaveRoom}
use Rattle.rinex_file.specs.Lines.{signal_text}
use Rattle.rinex_file.specs.Value.{SignalValues, no_signal_values}

-- the values at an index in the plan; none after the last one
abbrev pub values_at : List SignalValues → ℕ → SignalValues
values_at values p = get_or values p no_signal_values

-- After its first three columns the row has those of `shown`, and one blank. These are the values of a satellite, but
-- for the signals in `used` and not in `own`. It has values of signals in `own` alone.
pub record HasColumns (used own : ℕ) (values : List SignalValues) (row : List ℕ) : Type 0 where
  pub shown : List SignalValues
  pub size : length shown ≡ most_signals
  pub room : All HaveRoom shown
  pub columns : drop 3 row ≡ flat_map signal_text shown ++ 32 ∷ []
  pub few : used < 2 ^ most_signals
  pub short : length values ≤ most_signals
  pub same : (p : ℕ) → bit_at used p ≤ bit_at own p → values_at shown p ≡ values_at values p
  pub only : (p : ℕ) → bit_at own p ≡ 0 → values_at values p ≡ no_signal_values

-- the row is blank after its first three columns, but for the columns of the signals in `used`
abbrev pub IsBlankBut : ℕ → List ℕ → Type 0
IsBlankBut used row = HasColumns used 0 [] row

-- no signal is in both
abbrev pub AreApart : ℕ → ℕ → Type 0
AreApart left own = (p : ℕ) → bit_at left p ≡ 1 → bit_at own p ≡ 0
