-- A refused call changes nothing. Else the framer ends, and the file is completed, is left without an epoch, or a
-- write failed; each is one of the ways that the contract lists.
use Rattle.rtcm_convert.proofs.FaultLemmas.{fault_given}
use Rattle.rtcm_convert.proofs.FeedLemmas.{with_flags, finishes, finishes_empty}
use Rattle.rtcm_convert.proofs.Names.{IfOk, IfOk-weaker, subst, true, Conversion, FinishesEmptyNow, FinishesNow}
use Rattle.rtcm_convert.proofs.converter.Converter.finish.Goals as goal

pub returns-clause-whole : goal.returns-clause-whole
returns-clause-whole g c =
    let r = c.ended_report.result in
    subst (λ (x : Conversion). IfOk r (λ report. FinishesNow x (with_flags c.self.inside.failed true c.end_stream.new.framer c.end_stream.new.file_writer) report (g.W.Write.contents c.args.writer.now.inner) (g.W.Write.contents c.end_stream.new.writer.inner))) c.self.view_is (IfOk-weaker r _ _ (λ _. finishes c.in_default.ensures.whole c.kept.ensures.all c.kept.ensures.bounds) c.ended_report.ensures.some)

pub returns-clause-empty : goal.returns-clause-empty
returns-clause-empty g c =
    λ fault none is. subst (λ (x : Conversion). FinishesEmptyNow x (with_flags c.self.inside.failed true c.end_stream.new.framer c.end_stream.new.file_writer) fault (g.W.Write.contents c.args.writer.now.inner) (g.W.Write.contents c.end_stream.new.writer.inner)) c.self.view_is (finishes_empty c.in_default.ensures.whole c.kept.ensures.all c.kept.ensures.bounds (fault_given _ c.ended_report.result _ is c.ended_report.ensures.none))
