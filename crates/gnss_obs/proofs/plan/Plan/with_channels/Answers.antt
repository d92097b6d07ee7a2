use Rattle.gnss_obs.proofs.Names.{◌≡◌, ◌∙◌, [], ap, sym, true≢false, arith, Glonass, value_mapped, indices, planned_of, common_steps}
use Rattle.gnss_obs.proofs.PlanLaws.{none_planned, some_planned}
use Rattle.gnss_obs.proofs.plan.Plan.with_channels.Goals as goal

not_empty : (c : goal.Else-is_empty) → c.list.result.now ≡ [] → ⊥
not_empty c none = true≢false (sym (c.is_empty.ensures.1 none) ∙ c.if-is_empty.false)

pub invariant_of-result-2 : goal.invariant_of-result-2
invariant_of-result-2 c = (
  c.self.invariant.0,
  λ none. absurd (not_empty c (none_planned _ (c.list.ensures.indices ∙ sym (ap (planned_of Glonass) c.self.view_is)
      ∙ value_mapped Glonass indices c.self.inside.signals ∙ ap indices none))),
)

pub returns : goal.returns
returns c = grind (arith, common_steps, some_planned, not_empty)
