use Rattle.obs_epoch.proofs.ReachLemmas.{message_heard, epochs_gathered}
use Rattle.obs_epoch.proofs.laws.gathered.Goals as goal
use Rattle.obs_epoch.proofs.Names.{arith, common_steps}

pub returns-clause-heard : goal.returns-clause-heard
returns-clause-heard c = grind (arith, common_steps, message_heard, c.sizes.ensures.metres, c.sizes.ensures.carriers, c.sizes.ensures.cycles, c.sizes.ensures.shift, c.sizes.ensures.decibels, c.measures.ensures.cells, c.measures.ensures.points)

pub returns-clause-epochs : goal.returns-clause-epochs
returns-clause-epochs c = epochs_gathered
