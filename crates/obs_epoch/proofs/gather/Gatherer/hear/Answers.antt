use Rattle.obs_epoch.proofs.Names.{◌≡◌, ◌∙◌, sym, ap, ap₂, subst, refl, false, beq, cleared_if, Closed, HasPlannedCells, State, values_after_message, GathererValue, begun_by, epoch_in, heard_summary, both_ways}
use mathlib.Core.Bool.{not}
use Rattle.obs_epoch.proofs.ValueLemmas.{begins_empty, clears_none, gathered_of, heard_is, heard_setup}
use Rattle.obs_epoch.proofs.gather.Gatherer.hear.Goals as goal

-- The epoch closed last, by the clock before and after the message.
cleared_as : (c : goal.After-clear_if)
    → cleared_if (not (beq c.is_pending.result c.is_pending-was_pending.result)) c.self.inside.closed ≡ cleared_if (not (beq c.step-step.new.self.pending c.self.inside.clock.pending)) c.self.inside.closed
cleared_as c = ap₂ (λ a b. cleared_if (not (beq a b)) c.self.inside.closed) c.is_pending.ensures c.is_pending-was_pending.ensures

pub invariant_of-self : goal.invariant_of-self
invariant_of-self c =
    let same = ap (λ (g : State). g.setup.plan) c.step-step.ensures.step ∙ ap (λ s. s.plan) (heard_setup c.self.inside.clock (heard_summary c.args.said.now)) in
    record {
      planned = subst (λ p. HasPlannedCells p c.self.inside.pending) (sym same) c.self.invariant.planned;
      none = λ e. c.self.invariant.none (ap (λ (g : State). g.pending) (sym (c.step-step.ensures.keeps.none e)) ∙ e);
      empty = λ e.
          ap (λ (l : Closed). l.epoch.cells) (c.clear_if.ensures ∙ cleared_as c)
          ∙ begins_empty c.self.inside.clock.pending c.step-step.new.self.pending c.self.inside.closed c.self.invariant.empty e;
      closed = λ e. absurd (both_ways false refl e);
    }

pub returns-clause-step : goal.returns-clause-step
returns-clause-step c =
    let m = heard_summary c.args.said.now in
    let i = c.self.inside in
    let g : GathererValue = gathered_of i.clock i.pending i.closed i.values i.locks i.marks i.counts i.chosen i.just_closed i.has_ended in
    ap (λ e. record g { clock = c.step-step.new.self; epoch = e; values = c.values_after-self-inside.result; just_closed = false })
    (ap (λ l. epoch_in c.step-step.new.self i.pending l) (c.clear_if.ensures ∙ cleared_as c) ∙ clears_none i.pending i.closed c.step-step.ensures.keeps)
    ∙ heard_is g i.closed m refl c.step-step.ensures.step c.step-step.ensures.keeps c.self.invariant.none
    (c.values_after-self-inside.ensures ∙ ap (λ (v : GathererValue). values_after_message v.clock.setup v.values m) (sym c.self.view_is))
    ∙ ap (λ v. begun_by v m) c.self.view_is
