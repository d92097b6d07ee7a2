use Rattle.gnss_obs.proofs.Names.{◌+◌, ◌*◌, AreBelow, indices}
use Rattle.gnss_obs.proofs.epoch_cells.copy_satellite.Given as goal

abbrev pub invariant-loop-i : goal.invariant-loop-i
invariant-loop-i l = AreBelow (indices l.signals) (64 * l.id + l.i) l.cells l.sorted
