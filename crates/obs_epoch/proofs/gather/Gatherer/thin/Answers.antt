use Rattle.obs_epoch.proofs.Names.{arith, common_steps, both_ways}
use Rattle.obs_epoch.proofs.ValueLemmas.{sorted_carried}
use Rattle.obs_epoch.proofs.gather.Gatherer.thin.Goals as goal

pub invariant_of-self : goal.invariant_of-self
invariant_of-self c = grind (arith, common_steps, both_ways, sorted_carried)
