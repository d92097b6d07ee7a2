-- The contents of a file.
use Rattle.std.specs.Prelude.{ℕ, ℤ, ◌==◌, ◌&&◌, Bool, List, [], ◌∷◌, ◌++◌, zero, suc, map, flat_map, filter, find, if◌then◌else◌}
use Rattle.std.specs.Prelude.{Option, Some, None}
use Rattle.std.specs.Option.{option_map_or}
use Rattle.gnss_system.specs.declared.system.System.{System}
use Rattle.gnss_system.specs.Systems.{systems}
use Rattle.gnss_system.specs.Satellites.{satellites}
use Rattle.gnss_obs.specs.declared.cell.Cell.{Cell}
use Rattle.gnss_obs.specs.declared.cell.StationValues.{StationValues}
use Rattle.gnss_obs.specs.Values.{EpochValue, PlanValue, Closed, same_values, cells_of, planned_of, is_written}
use Rattle.rinex_file.specs.Texts.{HeaderLists}

-- the observations of a planned signal: values in thousandths, all absent if nothing was observed
pub record SignalValues : Type 0 where
  pub c : Option ℤ
  pub l : Option ℤ
  pub d : Option ℤ
  pub s : Option ℤ
  pub lli : ℕ

-- A satellite's entries: a map from the planned signals of its system to values and indicator, as one entry for each
-- signal in the plan's order. An entry without a value and without an indicator means that the map doesn't have the
-- signal.
pub record Row : Type 0 where
  pub satellite : ℕ
  pub signal_values : List SignalValues

-- a satellite of a system, with its entries
pub record SatelliteRow : Type 0 where
  pub system : System
  pub row : Row

-- a satellite of a system with these entries
abbrev pub satellite_row : System → ℕ → List SignalValues → SatelliteRow
satellite_row system satellite signal_values =
    record { system = system; row = record { satellite = satellite; signal_values = signal_values } }

-- An epoch: a map from satellites to entries, as a list of satellites in ascending order. `change`
-- are the station values that hold from this epoch on, if they differ from those before.
pub record Stamped : Type 0 where
  pub change : Option StationValues
  pub time : ℕ
  pub rows : List SatelliteRow

pub record FileValue : Type 0 where
  pub texts : HeaderLists
  pub interval : Option ℕ
  pub plan : PlanValue
  pub values : StationValues
  pub epochs : List Stamped

-- a file with this header and these epochs
abbrev pub file_with : HeaderLists → Option ℕ → PlanValue → StationValues → List Stamped → FileValue
file_with texts interval plan values epochs =
    record { texts = texts; interval = interval; plan = plan; values = values; epochs = epochs }

-- ---- the values of epochs that were gathered under a plan

-- the numbers from 1 to n
abbrev pub numbers : ℕ → List ℕ
numbers zero = []
numbers (suc n) = numbers n ++ suc n ∷ []

-- the satellites that are written, up to a number
abbrev pub written_satellites : List Cell → ℕ → List ℕ
written_satellites cells most = filter (is_written cells) (numbers most)

abbrev pub no_signal_values : SignalValues
no_signal_values = record { c = None; l = None; d = None; s = None; lli = 0 }

abbrev pub signal_values_of : Cell → SignalValues
signal_values_of c = record { c = c.c; l = c.l; d = c.d; s = c.s; lli = c.lli }

-- a satellite's cell of the signal at this index of its system's table
abbrev pub is_of_key : ℕ → ℕ → Cell → Bool
is_of_key id index c = (c.satellite.id == id) && (c.signal.index == index)

abbrev pub signal_values_at : List Cell → ℕ → ℕ → SignalValues
signal_values_at cells id index = option_map_or signal_values_of (find (is_of_key id index) cells) no_signal_values

-- a satellite's entries of these signals
abbrev pub row_of : List ℕ → List Cell → ℕ → Row
row_of signals cells id = record { satellite = id; signal_values = map (signal_values_at cells id) signals }

abbrev pub entries_of : PlanValue → System → ℕ → List Cell → List SignalValues
entries_of plan system id cells = map (signal_values_at cells id) (planned_of system plan)

-- a satellite of a system with these cells, with its entries
abbrev pub row_among : PlanValue → System → List Cell → ℕ → SatelliteRow
row_among plan system cells id = record { system = system; row = row_of (planned_of system plan) cells id }

abbrev pub row_in_epoch : PlanValue → EpochValue → System → ℕ → SatelliteRow
row_in_epoch plan epoch system id = row_among plan system (cells_of system epoch) id

-- the satellites of a system that are written
abbrev pub rows_of : PlanValue → EpochValue → System → List SatelliteRow
rows_of plan epoch system =
    map (row_in_epoch plan epoch system) (written_satellites (cells_of system epoch) (satellites system))

abbrev pub stamped_of : PlanValue → EpochValue → Stamped
stamped_of plan epoch =
    record { change = None; time = epoch.time; rows = flat_map (rows_of plan epoch) systems }

-- the station values now, if they differ from those before
abbrev pub change_from : StationValues → StationValues → Option StationValues
change_from before now = if same_values before now then None else Some now

-- an epoch that was closed after others, the last of which has these station values
abbrev pub stamped_after : PlanValue → StationValues → Closed → Stamped
stamped_after plan before c = record (stamped_of plan c.epoch) { change = change_from before c.values }

-- epochs that were closed after others, the last of which has these station values
abbrev pub all_stamped : PlanValue → StationValues → List Closed → List Stamped
all_stamped plan before [] = []
all_stamped plan before (c ∷ cs) = stamped_after plan before c ∷ all_stamped plan c.values cs
