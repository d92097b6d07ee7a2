-- The mark of lost lock in cells: bit 0 of the loss of lock indicator.
use Rattle.std.specs.Prelude.{ℕ, zero, suc, ◌+◌, ◌*◌, ◌/◌, List, [], ◌∷◌}
use Rattle.gnss_system.specs.declared.system.System.{System}
use Rattle.gnss_system.specs.SystemValues.{with_value_of}
use Rattle.gnss_obs.specs.declared.cell.Cell.{Cell}
use Rattle.gnss_obs.specs.Values.{Closed, EpochValue, cells_of}

-- The cell with the mark.
abbrev pub with_mark : Cell → Cell
with_mark x = record x { lli = x.lli / 2 * 2 + 1 }

-- The cell at an index is marked.
abbrev pub marked_at : ℕ → List Cell → List Cell
marked_at at [] = []
marked_at zero (x ∷ xs) = with_mark x ∷ xs
marked_at (suc at) (x ∷ xs) = x ∷ marked_at at xs

-- The cell of a system at an index is marked.
abbrev pub marked_in : System → ℕ → EpochValue → EpochValue
marked_in system at e = record e { cells = with_value_of system e.cells (marked_at at (cells_of system e)) }

abbrev pub closed_marked_in : System → ℕ → Closed → Closed
closed_marked_in system at c = record c { epoch = marked_in system at c.epoch }
