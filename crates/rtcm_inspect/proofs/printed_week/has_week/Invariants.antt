use Rattle.rtcm_inspect.proofs.Names.{is_in, ◌≡◌, ◌&&◌, below, false, get_or, list_any}
use Rattle.rtcm_inspect.proofs.printed_week.has_week.Given as goal

abbrev pub invariant-loop-zero : goal.invariant-loop-zero
invariant-loop-zero l = l.found ≡ list_any (λ i. get_or l.weeks.added.items i false && is_in l.is_whole l.first l.week i) (below l.zero)
