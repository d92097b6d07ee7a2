use Rattle.rtcm_inspect.proofs.Names.{is_tabulated, tabulated_same, value_tabulated, is_always_decoded, is_decoded, ◌∙◌, ◌||◌, Bool, List, ℕ, ap, decodes, had, length, nat_lt, plan_in, refl, rules, sym, valued_in}
use Rattle.rtcm_inspect.proofs.SignalLemmas.{decodes_had}
use Rattle.rtcm_inspect.proofs.decoded.set_had.Goals as goal

pub returns : goal.returns
returns c = λ fs h.
    let signals = c.args.signals.now in
    let cells = valued_in signals.station fs in
    let systems = is_tabulated c.each.result (decodes signals.signal_counts) (λ s. let given = c.each.ensures s in search rules) in
    let same = tabulated_same (decodes signals.signal_counts) (is_decoded (plan_in signals.station fs))
    (λ s. ap (λ (b : Bool). is_always_decoded s || b) (decodes_had signals.signal_counts cells h.counted.signal_counts s ∙ sym (ap (λ (is : List ℕ). nat_lt 0 (length is)) (value_tabulated s (had cells))))) in
    rw (systems ∙ same, h.forms) refl
