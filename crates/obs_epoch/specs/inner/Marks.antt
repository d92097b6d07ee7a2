-- The loss of lock that is carried to the next epoch on the grid, and one step of it.
use Rattle.std.specs.Prelude.{ℕ, zero, suc, ◌+◌, ◌==◌, ◌%◌, ◌&&◌, ◌||◌, Bool, false, not, List, [], ◌∷◌, set, replicate}
use Rattle.std.specs.Prelude.{fold, if◌then◌else◌, map}
use Rattle.std.specs.List.{list_any}
use Rattle.gnss_system.specs.declared.system.System.{System}
use Rattle.gnss_system.specs.Systems.{systems}
use Rattle.gnss_system.specs.SystemValues.{with_value_of}
use Rattle.gnss_obs.specs.declared.cell.Cell.{Cell}
use Rattle.gnss_obs.specs.HeardCells.{heard_cell}
use Rattle.gnss_obs.specs.Values.{EpochValue, cells_of}
use Rattle.obs_epoch.specs.declared.choice.EpochCounts.{EpochCounts}
use Rattle.obs_epoch.specs.GathererAfter.{lock_place, most_locks}
use Rattle.obs_epoch.specs.Thinning.{has_phase, mark_if, marked_epoch, up_to_most}
use Rattle.obs_epoch.specs.GathererHistory.{is_lost_in}

-- ---- an entry for each satellite and signal: whether lock was lost

abbrev pub no_marks : List Bool
no_marks = replicate most_locks false

-- ---- one more epoch

-- The loss of lock indicator of a cell has bit 0.
abbrev pub has_loss : Cell → Bool
has_loss x = x.lli % 2 == 1

-- Such a cell is in an epoch, among those of these systems.
abbrev pub any_loss : EpochValue → List System → Bool
any_loss e systems = list_any (λ s. list_any has_loss (cells_of s e)) systems

-- On the grid, a phase carries the mark, and lock is no longer lost; off the grid, it is lost at a marked phase.
abbrev pub note_lost : Bool → List Bool → Cell → List Bool
note_lost on_grid marks x =
    if has_phase x && (on_grid || has_loss x) then set marks (lock_place (heard_cell x)) (not on_grid) else marks

abbrev pub note_losses : Bool → List Bool → List Cell → List Bool
note_losses on_grid marks [] = marks
note_losses on_grid marks (x ∷ xs) = note_losses on_grid (note_lost on_grid marks x) xs

-- Those of an epoch, one system after the other.
abbrev pub note_systems_lost : Bool → EpochValue → List Bool → List System → List Bool
note_systems_lost on_grid e marks systems = fold (λ l s. note_losses on_grid l (cells_of s e)) marks systems

-- The phases of a system are marked.
abbrev pub with_marks_of : List Bool → System → EpochValue → EpochValue
with_marks_of marks system e =
    record e { cells = with_value_of system e.cells (map (mark_if (is_lost_in marks)) (cells_of system e)) }

-- The phase of the cell at an index is marked.
abbrev pub mark_at : (Cell → Bool) → ℕ → List Cell → List Cell
mark_at lost at [] = []
mark_at lost zero (x ∷ xs) = mark_if lost x ∷ xs
mark_at lost (suc at) (x ∷ xs) = x ∷ mark_at lost at xs

abbrev pub with_mark_in : List Bool → System → ℕ → EpochValue → EpochValue
with_mark_in marks system at e =
    record e { cells = with_value_of system e.cells (mark_at (is_lost_in marks) at (cells_of system e)) }

-- An epoch on the grid is marked.
abbrev pub carried_to : Bool → List Bool → EpochValue → EpochValue
carried_to on_grid marks e = if on_grid then marked_epoch (is_lost_in marks) e else e

abbrev pub carried_from : Bool → List Bool → EpochValue → List Bool
carried_from on_grid marks e = note_systems_lost on_grid (carried_to on_grid marks e) marks systems

-- ---- the counts

abbrev pub one_if : Bool → ℕ
one_if b = if b then 1 else 0

abbrev pub counted_epoch : Bool → Bool → EpochCounts → EpochCounts
counted_epoch in_window on_grid n = record {
  epochs = up_to_most (n.epochs + 1);
  window = up_to_most (n.window + one_if in_window);
  grid = up_to_most (n.grid + one_if on_grid);
}
