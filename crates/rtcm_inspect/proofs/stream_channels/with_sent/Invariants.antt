use Rattle.rtcm_inspect.proofs.Names.{◌≡◌, length, with_sent}
use Rattle.rtcm_inspect.proofs.stream_channels.with_sent.Given as goal

-- What is left to be sent gives what all does.
abbrev pub invariant-loop-slot : goal.invariant-loop-slot
invariant-loop-slot l = with_sent l.known l.sent ≡ with_sent l.fn.known l.fn.sent

abbrev pub decreases-loop-slot : goal.decreases-loop-slot
decreases-loop-slot l = length l.sent
