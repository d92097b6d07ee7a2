-- The counts of a file, and the times of its epochs.
use Rattle.std.specs.Prelude.{◌≡◌, ◌≤◌, ℕ, List, length, map, Option, Result, Ok, Err, IfSome, [], Some, None}
use Rattle.rinex_file.specs.declared.read.file.Counts.{Counts}
use Rattle.rinex_file.specs.declared.read.file.FileSummary.{FileSummary}
use Rattle.rinex_file.specs.declared.read.fault.ReadFault.{ReadFault}
use Rattle.rinex_file.specs.Value.{FileValue, SatelliteRow, Stamped}
use Rattle.rinex_file.specs.FileValues.{IsFileValue, time_stamped}
use Rattle.rinex_file.specs.File.{file_text, file_lines}
use Rattle.rinex_file.specs.Exact.{IsNoFault, most_lines}
use Rattle.rinex_file.specs.Times.{AreTimes}
use Rattle.std.specs.List.{sum_by}
use Rattle.gnss_obs.specs.declared.cell.StationValues.{StationValues}

-- what was read of a file after its header: epochs, and the satellites of an epoch that was begun
pub record History : Type 0 where
  pub epochs : List Stamped
  pub rows : List SatelliteRow

abbrev pub nothing : History
nothing = record { epochs = []; rows = [] }

-- the number of lines of satellites
abbrev pub rows_in : List Stamped → ℕ
rows_in epochs = sum_by (λ e. length e.rows) epochs

-- the number of events of a change of station values
abbrev pub changes_of : Option StationValues → ℕ
changes_of None = 0
changes_of (Some v) = 1

abbrev pub events_in : List Stamped → ℕ
events_in epochs = sum_by (λ e. changes_of e.change) epochs

-- the numbers of the file's epochs, of its lines of satellites, and of its events
pub record AreCounts (n : Counts) (v : FileValue) : Type 0 where
  pub epochs : n.epochs ≡ length v.epochs
  pub satellites : n.satellites ≡ rows_in v.epochs
  pub events : n.events ≡ events_in v.epochs

-- the file's counts, and the times of its epochs
pub record IsSummary (s : FileSummary) (v : FileValue) : Type 0 where
  pub counts : AreCounts s.counts v
  pub times : AreTimes (map time_stamped v.epochs) s.times

-- the input, if it is known, is the text of a file value of which this holds
pub record IsTextWith (Holds : FileValue → Type 0) (input : Option (List ℕ)) : Type 0 where
  pub v : FileValue
  pub is : IsFileValue v
  pub few : length (file_lines v) ≤ most_lines
  pub text : IfSome input (λ bytes. bytes ≡ file_text v)
  pub holds : Holds v

-- this holds of what was found, or an allocation failure, or a failed reader
abbrev pub HoldsOr : {A : Type 0} → (A → Type 0) → Result A ReadFault → Type 0
HoldsOr Holds (Ok found) = Holds found
HoldsOr Holds (Err fault) = IsNoFault fault
