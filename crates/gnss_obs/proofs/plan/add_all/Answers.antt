use Rattle.gnss_obs.proofs.Names.{◌≡◌, ◌∙◌, [], sym, subst, arith, value_of, IsOf, equal_values, value_mapped, passed_all}
use Rattle.gnss_obs.proofs.plan.add_all.Goals as goal

pub returns : goal.returns
returns c =
    let each = passed_all (λ s list. (list ≡ (value_of s c.args.signals.now).now) × IsOf s (value_of s c.args.signals.now).now) (λ s list. list ≡ []) c.loop-i.lists c.loop-i.i (omega (arith, c.loop-i-test.false)) c.loop-i.invariant in
    (equal_values _ _ (λ s. (each s).0 ∙ sym (value_mapped s (λ l. l.now) c.args.signals.now)), λ s. subst (IsOf s) (sym (value_mapped s (λ l. l.now) c.args.signals.now)) (each s).1)
