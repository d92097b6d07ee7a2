use Rattle.obs_epoch.proofs.Names.{◌≡◌, ◌∙◌, ◌||◌, ◌&&◌, ap, ap₂, is_some, subst, sym, KeepsEpoch, State, ends_epoch, ended_where, heard_summary, is_close_first, kind_by, no_counts, open_by, closed_time}
use Rattle.obs_epoch.proofs.HeardLemmas.{closes, done, keeps}
use Rattle.obs_epoch.proofs.clock.Clock.step.Goals.{then-is_close_first, else-is_close_first+then-ends, else-is_close_first+else-ends}
use Rattle.obs_epoch.proofs.clock.Clock.step.Goals as goal

pub returns-clause-keeps : goal.returns-clause-keeps
returns-clause-keeps c = subst (KeepsEpoch c.args.self.now) (sym c.outcome-kind.ensures.step) (keeps c.args.self.now (heard_summary c.args.said.now) c.ends_epoch-ends.ensures.known)

pub returns-clause-closed : goal.returns-clause-closed
returns-clause-closed c =
    let g = c.args.self.now in
    let m = heard_summary c.args.said.now in
    let first : c.is_close_first.result ≡ is_close_first (kind_by g no_counts m) = c.is_close_first.ensures ∙ ap is_close_first c.outcome-kind.ensures.kind in
    let pending : c.self.inside.pending ≡ (open_by g m).pending = ap (λ (s : State). s.pending) (c.self.view_is ∙ c.outcome-kind.ensures.step) in
    let whole : (c.is_close_first.result || (c.ends_epoch-ends.result && c.self.inside.pending)) ≡ is_some (closed_time g m) =
    ap₂ (λ a b. a || (b && c.self.inside.pending)) first c.ends_epoch-ends.ensures.value
    ∙ ap (λ b. is_close_first (kind_by g no_counts m) || (ends_epoch g.setup m && b)) pending ∙ closes g m c.ends_epoch-ends.ensures.known in
    elim c.if-is_close_first.branch [
      | then-is_close_first w ↦ w.result-is ∙ w.if-is_close_first.true ∙ sym (ap (λ a. a || (c.ends_epoch-ends.result && c.self.inside.pending)) w.if-is_close_first.true) ∙ whole
      | else-is_close_first+then-ends w ↦ w.result-is ∙ sym (ap₂ (λ a b. a || (b && c.self.inside.pending)) w.if-is_close_first.false w.if-ends.true) ∙ whole
      | else-is_close_first+else-ends w ↦ w.result-is ∙ w.if-ends.false ∙ sym (ap₂ (λ a b. a || (b && c.self.inside.pending)) w.if-is_close_first.false w.if-ends.false) ∙ whole
    ]

pub returns-clause-ended : goal.returns-clause-ended
returns-clause-ended c =
    ap₂ ended_where (returns-clause-closed c) c.outcome-kind.ensures.step ∙ done c.args.self.now (heard_summary c.args.said.now) c.ends_epoch-ends.ensures.known
