use Rattle.gnss_obs.proofs.Names.{take, HasSatellites, satellites}
use Rattle.gnss_obs.proofs.epoch_cells.satellites_of.Given as goal

abbrev pub invariant-loop-i : goal.invariant-loop-i
invariant-loop-i l = HasSatellites (satellites l.fn.system) (take l.i l.cells) l.set
