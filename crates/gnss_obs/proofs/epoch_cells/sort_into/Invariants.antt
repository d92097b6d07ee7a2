use Rattle.gnss_obs.proofs.Names.{◌-◌, planned_of, satellites}
use Rattle.gnss_obs.proofs.SetLemmas.{AreSortedTo, lowest}
use Rattle.gnss_obs.proofs.epoch_cells.sort_into.Given as goal

abbrev pub invariant-loop-left : goal.invariant-loop-left
invariant-loop-left l = AreSortedTo (satellites l.fn.system) (planned_of l.fn.system l.plan) l.cells l.left l.sorted

abbrev pub decreases-loop-left : goal.decreases-loop-left
decreases-loop-left l = 64 - lowest l.left
