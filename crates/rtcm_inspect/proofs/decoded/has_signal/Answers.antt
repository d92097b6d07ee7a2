use Rattle.rtcm_inspect.proofs.Names.{◌≡◌, ◌∙◌, ap, arith, length, table, ℕ, below, counted, list_any, nat_lt}
use Rattle.rtcm_inspect.proofs.decoded.has_signal.Goals as goal

pub returns : goal.returns
returns c =
    let end : c.loop-index.index ≡ length (table c.args.system) = omega (arith, c.signals-index-end.ensures.value, c.loop-index.auto.index-end, c.loop-index-test.false) in
    c.loop-index.invariant ∙ ap (λ (n : ℕ). list_any (λ i. nat_lt 0 (counted c.args.signal_counts.now c.args.system i)) (below n)) end
