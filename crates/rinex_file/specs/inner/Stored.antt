-- An epoch that is stored, and its text.
use Rattle.std.specs.Prelude.{ℕ, ◌<◌, ◌≤◌, List, length, All}
use Rattle.gnss_system.specs.Satellites.{number_of}
use Rattle.gnss_system.specs.Signals.{most_signals}
use Rattle.rinex_columns.specs.Numbers.{joined}
use Rattle.rinex_file.specs.File.{stamped_lines}
use Rattle.rinex_file.specs.FileValues.{AreSignalValues}
use Rattle.rinex_file.specs.Value.{SatelliteRow, Stamped}

-- a line has room for a satellite
abbrev pub HasRoom : SatelliteRow → Type 0
HasRoom s =
    (number_of s.system s.row.satellite < 100) × All AreSignalValues s.row.signal_values
    × (length s.row.signal_values ≤ most_signals)

abbrev pub HaveRowsRoom : Stamped → Type 0
HaveRowsRoom e = All HasRoom e.rows

-- the text of an epoch
unfoldable pub stamped_text : Stamped → List ℕ
stamped_text e = joined (stamped_lines e)
