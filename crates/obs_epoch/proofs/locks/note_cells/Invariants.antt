use Rattle.obs_epoch.proofs.Names.{◌≡◌, ◌||◌, All, drop, list_any, has_loss, note_all, IsHeld}
use Rattle.obs_epoch.proofs.locks.note_cells.Given as goal

abbrev pub invariant-loop-i : goal.invariant-loop-i
invariant-loop-i l = record {
  locks : note_all l.time l.locks (drop l.i l.cells) ≡ note_all l.time l.fn.locks l.cells;
  held : All (IsHeld l.fn.system) (drop l.i l.cells);
  loss : (l.has_loss || list_any has_loss (drop l.i l.cells)) ≡ list_any has_loss l.cells;
}
