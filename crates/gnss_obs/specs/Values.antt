-- The values of plans, cells and epochs.
use Rattle.std.specs.Prelude.{◌≡◌, ℕ, zero, suc, ℤ, ◌+◌, ◌<◌, ◌≤◌, ◌^◌, ◌==◌, ◌&&◌, ◌||◌, Bool, List, [], ◌∷◌, length}
use Rattle.std.specs.Prelude.{All, IfSome, is_some, pos, unsigned_abs, if◌then◌else◌}
use Rattle.std.specs.Ordering.{int_eq}
use Rattle.std.specs.List.{list_any, sum_by}
use Rattle.gnss_system.specs.Systems.{systems}
use Rattle.gnss_system.specs.SystemValues.{value_of, tabulate}
use Rattle.gnss_system.specs.declared.by_system.BySystem.{BySystem}
use Rattle.gnss_system.specs.Satellites.{satellites as satellites_in, IsSatellite}
use Rattle.gnss_system.specs.Signals.{IsSignal}
use Rattle.gnss_system.specs.declared.system.System.{System}
use Rattle.gnss_obs.specs.declared.cell.Cell.{Cell}
use Rattle.gnss_obs.specs.Channels.{ChannelsValue, no_channels}
use Rattle.gnss_obs.specs.declared.cell.StationValues.{StationValues}

-- ---- plans: the wanted signals of each system, in order, by their indices in the system's table; and the channels of
-- the GLONASS satellites

pub record PlanValue : Type 0 where
  pub signals : BySystem (List ℕ)
  pub channels : ChannelsValue

-- A plan of these signals, without channels.
abbrev pub plan_with : BySystem (List ℕ) → PlanValue
plan_with signals = record { signals = signals; channels = no_channels }

abbrev pub planned_of : System → PlanValue → List ℕ
planned_of s p = value_of s p.signals

-- ---- epochs: the time in milliseconds since 1980-01-06 00:00:00, and the kept cells of each system

abbrev pub CellLists : Type 0
CellLists = BySystem (List Cell)

abbrev pub no_cells : CellLists
no_cells = tabulate (λ s. [])

pub record EpochValue : Type 0 where
  pub time : ℕ
  pub cells : CellLists

-- An epoch without cells.
abbrev pub empty_epoch : ℕ → EpochValue
empty_epoch time = record { time = time; cells = no_cells }

abbrev pub cells_of : System → EpochValue → List Cell
cells_of s e = value_of s e.cells

-- The largest number of kept cells of a system.
abbrev pub most_cells : ℕ
most_cells = 256

-- A value that fits a field of fourteen columns, F14.3.
abbrev pub HasTwelveDigits : ℤ → Type 0
HasTwelveDigits v = unsigned_abs v < 10 ^ 12

-- A kept cell of a system.
pub record IsHeld (system : System) (cell : Cell) : Type 0 where
  pub satellite : cell.satellite.system ≡ system
  pub signal : cell.signal.system ≡ system
  pub number : IsSatellite cell.satellite
  pub place : IsSignal cell.signal
  pub c : IfSome cell.c HasTwelveDigits
  pub l : IfSome cell.l HasTwelveDigits
  pub d : IfSome cell.d HasTwelveDigits
  pub s : IfSome cell.s HasTwelveDigits
  pub lli : cell.lli < 4

pub record AreHeld (system : System) (cells : List Cell) : Type 0 where
  pub each : All (IsHeld system) cells
  pub few : length cells ≤ most_cells

-- The cell has a value.
abbrev pub has_value : Cell → Bool
has_value c = is_some c.c || is_some c.l || is_some c.d || is_some c.s

-- A cell of satellite `id` has a value.
abbrev pub is_written : List Cell → ℕ → Bool
is_written cells id = list_any (λ c. (c.satellite.id == id) && has_value c) cells

-- A cell of satellite `id`.
abbrev pub is_of_satellite : ℕ → Cell → Bool
is_of_satellite id c = c.satellite.id == id

-- The number of cells of satellite `id` at the beginning of the list.
abbrev pub run : ℕ → List Cell → ℕ
run id [] = 0
run id (c ∷ cells) = if is_of_satellite id c then suc (run id cells) else 0

-- The number of satellites to write among the first n.
unfoldable pub written_among : List Cell → ℕ → ℕ
written_among cells zero = 0
written_among cells (suc n) = written_among cells n + (if is_written cells (suc n) then 1 else 0)

-- The number of satellites to write: those with a cell that has a value.
abbrev pub satellites_written : EpochValue → ℕ
satellites_written e = sum_by (λ s. written_among (cells_of s e) (satellites_in s)) systems

-- The largest number of satellites to write.
abbrev pub most_written : ℕ
most_written = sum_by satellites_in systems

-- All four values are equal.
abbrev pub same_values : StationValues → StationValues → Bool
same_values v w = int_eq v.x w.x && int_eq v.y w.y && int_eq v.z w.z && (v.height == w.height)

-- An epoch, with the station values that were known when it was closed.
pub record Closed : Type 0 where
  pub epoch : EpochValue
  pub values : StationValues

-- A closed epoch without its cells.
abbrev pub cleared : Closed → Closed
cleared c = record c { epoch = empty_epoch c.epoch.time }

-- All values are 0, for a station of unknown position.
abbrev pub no_values : StationValues
no_values = record { x = pos 0; y = pos 0; z = pos 0; height = 0 }
