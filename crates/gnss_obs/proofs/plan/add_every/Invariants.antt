use Rattle.gnss_obs.proofs.Names.{◌≡◌, indices, IsOf, below}
use Rattle.gnss_obs.proofs.plan.add_every.Given as goal

abbrev pub invariant-loop-index : goal.invariant-loop-index
invariant-loop-index l = (below l.index ≡ indices l.signals) × IsOf l.system l.signals
