use Rattle.rtcm_scan.proofs.ReadLemmas.{at_each, passes_end, breaks_end, breaks_reading}
use Rattle.rtcm_scan.proofs.framer.Framer.read_frames.Goals as goal

pub returns-in-Ok-finish-clause-whole : goal.returns-in-Ok-finish-clause-whole
returns-in-Ok-finish-clause-whole g c =
    passes_end g.S.FrameSink.took g.S.FrameSink.broke _ _ c.in-Ok.ensures.end.0 c.in-Ok.ensures.whole c.in-Ok-finish.ensures.whole

pub returns-in-Err-finish-clause-fault : goal.returns-in-Err-finish-clause-fault
returns-in-Err-finish-clause-fault g c =
    breaks_end g.S.FrameSink.took g.S.FrameSink.broke c.in-Ok.ensures.same.ended c.in-Ok.ensures.end.0 c.in-Ok.ensures.whole c.in-Err-finish.ensures.part

pub returns-in-Err-clause-fault : goal.returns-in-Err-clause-fault
returns-in-Err-clause-fault g c =
    (at_each c.in-Err.fault (λ p. (p.0, p.1, p.2.0)) (λ q. q)
    (λ q. breaks_reading g.S.FrameSink.took g.S.FrameSink.broke c.requires.going q)
    c.in-Err.ensures.fault)
