use Rattle.std.proofs.Common.{arith}
use Rattle.gnss_obs.proofs.PlanLaws.{few_signals}
use Rattle.gnss_obs.proofs.plan.Plan.signals.Goals as goal

pub returns-clause-bound : goal.returns-clause-bound
returns-clause-bound c = let few = few_signals c.args.system _ c.of.ensures.system in omega (arith, few)
