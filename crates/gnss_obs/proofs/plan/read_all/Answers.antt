use Rattle.gnss_obs.proofs.Names.{ℕ, List, Bor, ◌≡◌, ◌∙◌, Err, true, is_ok, sym, ap, subst, err_from_is_err_and, map_by, has_signal, signals_of, IsMemoryFaultOr, value_mapped}
use Rattle.gnss_obs.proofs.MadeLemmas.{refused_at}
use Rattle.gnss_obs.proofs.plan.read_all.Goals as goal

pub returns-in_err-read_signals : goal.returns-in_err-read_signals
returns-in_err-read_signals c =
    let error = err_from_is_err_and c.from_residual.result c.from_residual.ensures.1 in
    rw (error.1, error.2)
    (refused_at (map_by (λ t. t.now) c.args.texts.now) c.loop-i.i c.at-system.result _ c.at-system.ensures (λ t less. ap is_ok (c.loop-i.invariant.0 t less).0)
    (subst (λ (text : List ℕ). IsMemoryFaultOr (has_signal c.at-system.result text ≡ true) (λ e. signals_of c.at-system.result text ≡ Err e) c.in_err-read_signals.field-0.0) (ap (λ (b : Bor (List ℕ)). b.now) c.of.ensures ∙ sym (value_mapped c.at-system.result (λ t. t.now) c.args.texts.now)) (c.in_err-read_signals.ensures)))
