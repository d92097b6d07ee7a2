-- The line of a satellite while it is read.
use Rattle.std.specs.Prelude.{◌≡◌, ℕ, length, ◌*◌, ◌/◌, List, take, drop, All, Any, IsTrue}
use Rattle.gnss_system.specs.declared.system.System.{System}
use Rattle.gnss_system.specs.Satellites.{satellites}
use Rattle.rinex_file.specs.Value.{SignalValues, SatelliteRow}
use Rattle.rinex_file.specs.FileValues.{AreSignalValues, IsRow, has_some_value}
use Rattle.rinex_file.specs.Blanks.{filled_to}
use Rattle.rinex_columns.specs.Limits.{signal_columns}

-- a satellite of this system, if this number of signals is planned
abbrev pub IsRowOf : System → ℕ → SatelliteRow → Type 0
IsRowOf system signals s = (s.system ≡ system) × IsRow (satellites system) signals s.row

-- entries of this number of signals, some of which has a value
pub record AreEntries (signals : ℕ) (entries : List SignalValues) : Type 0 where
  pub each : All AreSignalValues entries
  pub whole : length entries ≡ signals
  pub some : Any (λ e. IsTrue (has_some_value e)) entries

-- ---- the columns of signals in a text whose blanks at the end were cut

-- those of the signal that begins here
abbrev pub signal_from : ℕ → List ℕ → List ℕ
signal_from at text = filled_to signal_columns (take signal_columns (drop at text))

-- those of the signal in which the text ends, or blanks
abbrev pub last_signal : List ℕ → List ℕ
last_signal text = filled_to signal_columns (drop (signal_columns * (length text / signal_columns)) text)
