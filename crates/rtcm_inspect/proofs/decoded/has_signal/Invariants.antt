use Rattle.rtcm_inspect.proofs.Names.{◌≡◌, below, counted, list_any, nat_lt}
use Rattle.rtcm_inspect.proofs.decoded.has_signal.Given as goal

abbrev pub invariant-loop-index : goal.invariant-loop-index
invariant-loop-index l = l.found ≡ list_any (λ i. nat_lt 0 (counted l.signal_counts l.system i)) (below l.index)
