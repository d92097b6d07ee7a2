use Rattle.gnss_obs.proofs.Names.{◌<◌, ◌≡◌, ◌∙◌, All, ap, length, nat_eq, subst, sym, arith, IsDistinct, value_of, value_mapped, System, indices, planned_of, table, common_steps}
use Rattle.gnss_obs.proofs.PlanLaws.{listed_by, none_planned}
use Rattle.gnss_obs.proofs.plan.Plan.are_listed.Goals as goal

here : (c : goal.After-are_channels) (s : System) → indices (value_of s c.self.inside.signals) ≡ planned_of s c.args.self.now
here c s = sym (value_mapped s indices c.self.inside.signals) ∙ ap (planned_of s) c.self.view_is

pub returns-clause-listed : goal.returns-clause-listed
returns-clause-listed c = λ s. subst (All (λ i. i < length (table s))) (here c s) (listed_by s _ (c.self.invariant.0 s).each)

pub returns-clause-unplanned : goal.returns-clause-unplanned
returns-clause-unplanned c = grind (arith, common_steps, none_planned, here)

pub returns-clause-apart : goal.returns-clause-apart
returns-clause-apart c = λ s. subst (IsDistinct nat_eq) (here c s) (c.self.invariant.0 s).apart
