-- The cells of a pending epoch, in the order in which they arrive.
use Rattle.std.specs.Prelude.{ℕ, List}
use Rattle.gnss_obs.specs.declared.cell.Cell.{Cell}
use Rattle.gnss_obs.specs.Values.{CellLists, PlanValue, planned_of}
use Rattle.gnss_system.specs.SystemValues.{value_of, tabulate}
use Rattle.gnss_obs.specs.Order.{sorted_by, cell_sort_key}

-- ---- sorting

abbrev pub sorted_cells : List ℕ → List Cell → List Cell
sorted_cells planned cells = sorted_by (cell_sort_key planned) cells

abbrev pub sorted_lists : PlanValue → CellLists → CellLists
sorted_lists p lists = tabulate (λ s. sorted_cells (planned_of s p) (value_of s lists))
