use Rattle.gnss_obs.proofs.Names.{arith, common_steps, ints}
use Rattle.gnss_obs.proofs.SizeLaws.{metres_small}
use Rattle.gnss_obs.proofs.observables.pseudorange.Goals as goal

pub returns-in-Some-clause-bound : goal.returns-in-Some-clause-bound
returns-in-Some-clause-bound c = grind (arith, common_steps, metres_small, ints)
