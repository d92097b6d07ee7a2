use Rattle.obs_epoch.proofs.TwoSystemsLemmas.{read_plainly}
use Rattle.obs_epoch.proofs.laws.two_systems.Goals as goal
use Rattle.obs_epoch.proofs.Names.{arith, common_steps}

pub returns : goal.returns
returns c = grind (arith, common_steps, read_plainly)
