-- The keys and the signals of kept cells.
use Rattle.std.specs.Prelude.{ℕ, ◌≡◌, All, Bool, true, List, is_some}
use Rattle.std.specs.List.{list_any}
use Rattle.gnss_system.specs.declared.system.System.{System}
use Rattle.gnss_obs.specs.declared.cell.Cell.{Cell}
use Rattle.gnss_obs.specs.HeardCells.{HeardCell, has_same_key, heard_cell}
use Rattle.gnss_system.specs.SystemValues.{value_of}
use Rattle.gnss_obs.specs.Values.{CellLists, PlanValue, planned_of}
use Rattle.gnss_obs.specs.Plans.{place_in}

-- A cell of that key is kept.
abbrev pub is_held : List Cell → HeardCell → Bool
is_held ms x = list_any (λ m. has_same_key x (heard_cell m)) ms

-- The signal of the cell is planned.
abbrev pub IsPlanned : List ℕ → Cell → Type 0
IsPlanned planned c = is_some (place_in c.signal planned) ≡ true

-- The signal of each cell is planned.
abbrev pub HasPlannedCells : PlanValue → CellLists → Type 0
HasPlannedCells p lists = (s : System) → All (IsPlanned (planned_of s p)) (value_of s lists)
