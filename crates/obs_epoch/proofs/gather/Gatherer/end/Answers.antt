use Rattle.obs_epoch.proofs.Names.{◌≡◌, ◌++◌, None, true, false, sym, ◌∙◌, subst, arith, ap, common_steps, GathererValue, State, closed_noted, end_step, ended_where, HasGatheredEpochs, returned_epoch, shut_where, thinned_if}
use Rattle.obs_epoch.proofs.ReturnedLemmas.{gathers_ended}
use Rattle.obs_epoch.proofs.ValueLemmas.{gathered_of}
use Rattle.obs_epoch.proofs.gather.Gatherer.end.Goals.{then-not-self, else-not-self}
use Rattle.obs_epoch.proofs.gather.Gatherer.end.Goals as goal

ended_all : (g : State) → ended_where g.pending g ≡ record g { pending = false }
ended_all g = grind (arith, common_steps)

-- The messages have ended.
abbrev over : GathererValue → GathererValue
over g = record g { has_ended = true }

pub returns-clause-closes : goal.returns-clause-closes
returns-clause-closes c = λ s ms es h fresh.
    let now = c.args.self.now in
    let i = c.self.inside in
    let g : GathererValue = gathered_of i.clock i.pending i.closed i.values i.locks i.marks i.counts i.chosen i.just_closed i.has_ended in
    let going : i.has_ended ≡ false = ap (λ (v : GathererValue). v.has_ended) c.self.view_is ∙ fresh in
    let is : c.if-not-self.closed ≡ i.clock.pending = elim c.if-not-self.branch [
      | then-not-self w ↦ w.closed-is ∙ w.is_pending-closed.ensures
      | else-not-self w ↦ absurd (grind (arith, going, w.if-not-self.false))
    ] in
    let step : c.note_closed.new.self ≡ thinned_if c.if-not-self.closed (end_step now) =
    c.note_closed.ensures ∙ ap (thinned_if c.if-not-self.closed) (ap (λ b. closed_noted (shut_where b (over g))) is
    ∙ ap (λ (k : State). closed_noted (record (over g) { clock = k; just_closed = i.clock.pending })) (ended_all i.clock) ∙ ap end_step c.self.view_is) in
    let pending : now.clock.pending ≡ c.if-not-self.closed = sym (is ∙ ap (λ (v : GathererValue). v.clock.pending) c.self.view_is) in
    subst (λ (v : GathererValue). HasGatheredEpochs v s ms (es ++ returned_epoch v) None) (sym step) (gathers_ended now s ms es h fresh c.if-not-self.closed pending)
