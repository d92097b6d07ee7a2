use Rattle.gnss_obs.proofs.Names.{◌∙◌, sym, ap, arith, rules, get_or-replicate, indices, signal_at, planned_signal}
use Rattle.gnss_obs.proofs.SignalLemmas.{no_signal, none_planned}
use Rattle.gnss_obs.proofs.signals.Signals.new.Goals as goal

pub invariant_of-result : goal.invariant_of-result
invariant_of-result c = (
  search rules,
  search rules,
  search rules,
  λ system of id small.
      ap (signal_at system) (get_or-replicate 33 id 255 0 (omega (arith, small))) ∙ no_signal system
      ∙ sym (ap (λ keys. planned_signal system (indices keys) id) c.new.ensures.empty ∙ none_planned system id),
)
