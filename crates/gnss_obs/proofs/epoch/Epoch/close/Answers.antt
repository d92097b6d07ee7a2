use Rattle.gnss_obs.specs.Values.{planned_of}
use Rattle.gnss_obs.proofs.epoch.Epoch.close.Goals as goal

pub invariant_of-self : goal.invariant_of-self
invariant_of-self c = λ s. (planned_of s c.args.plan.now, c.move_sorted.ensures.order s)
