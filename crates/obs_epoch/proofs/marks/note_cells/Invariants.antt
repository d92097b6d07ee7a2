use Rattle.obs_epoch.proofs.Names.{◌≡◌, All, drop, note_losses, IsHeld}
use Rattle.obs_epoch.proofs.marks.note_cells.Given as goal

abbrev pub invariant-loop-i : goal.invariant-loop-i
invariant-loop-i l = (note_losses l.on_grid l.marks (drop l.i l.cells) ≡ note_losses l.on_grid l.fn.marks l.cells) × All (IsHeld l.fn.system) (drop l.i l.cells)
