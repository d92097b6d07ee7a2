-- Each end of a feed: refused at once, fed, or stopped by TooLong or the file's writer, with the record of what was
-- made, for a value of the converter with its parts inside.
use Rattle.rtcm_convert.proofs.FaultLemmas.{not_err}
use Rattle.rtcm_convert.proofs.FeedLemmas.{with_flags, long_of, sink_of, writer_at, fed_whole, fed_fit, fed_long, fed_part}
use Rattle.rtcm_convert.proofs.RunLemmas.{going_on}
use Rattle.rtcm_convert.proofs.StreamLemmas.{piece_fine, piece_failed}
use Rattle.rtcm_convert.proofs.Names.{⊤, ◌∙◌, subst, true, up_to_limit, Conversion, CutsAtLimit, TakesPiece, WritesPrefixOfAdded}
use Rattle.rtcm_convert.proofs.converter.Converter.feed.Goals as goal

pub invariant_of-self : goal.invariant_of-self
invariant_of-self g c =
    fed_fit c.args.piece.now c.self.invariant (going_on c.self.view_is c.in_ok-refuse.ensures.going) c.in-Ok.ensures.goes c.in-Ok.ensures.ready c.feed.ensures.same.ended c.feed.ensures.same.some c.in-Ok.ensures.whole

pub returns-in-Ok-clause-whole : goal.returns-in-Ok-clause-whole
returns-in-Ok-clause-whole g c =
    let go = going_on c.self.view_is c.in_ok-refuse.ensures.going in
    subst (λ (x : Conversion). TakesPiece x (with_flags c.self.inside.failed c.self.inside.finished c.feed.new.self c.feed.new.sink) c.args.piece.now (g.W.Write.contents c.args.writer.now.inner) (g.W.Write.contents c.feed.new.out.inner)) c.self.view_is (fed_whole c.args.piece.now (record { bounds = c.kept.ensures.bounds; values = c.kept.ensures.now }) (c.self.invariant.listening go) (c.feed.ensures.same.ended ∙ c.self.invariant.listening go) c.in-Ok.ensures.whole)

pub returns-in-Ok-clause-device : goal.returns-in-Ok-clause-device
returns-in-Ok-clause-device g c =
    let d = piece_fine g.W.Write.contents c.args.piece.now c.in-Ok.ensures.whole (c.self.invariant.drained (going_on c.self.view_is c.in_ok-refuse.ensures.going)) in (tt, d.1, d.2)

pub returns-in-Ok-clause-part : goal.returns-in-Ok-clause-part
returns-in-Ok-clause-part g c = λ e. absurd (not_err _ _ e)

pub returns-in-Err-clause-long : goal.returns-in-Err-clause-long
returns-in-Err-clause-long g c =
    let go = going_on c.self.view_is c.in_ok-refuse.ensures.going in
    λ e. subst (λ (x : Conversion). CutsAtLimit x (with_flags true c.self.inside.finished c.feed.new.self c.feed.new.sink) c.args.piece.now (g.W.Write.contents c.args.writer.now.inner) (g.W.Write.contents c.feed.new.out.inner)) c.self.view_is
    (fed_long c.args.piece.now (c.self.invariant.listening go) (c.feed.ensures.same.ended ∙ c.self.invariant.listening go) (long_of c.in-Err.stopped _ _ _ c.from.ensures c.in-Err.ensures.fault e))

pub returns-in-Err-clause-part : goal.returns-in-Err-clause-part
returns-in-Err-clause-part g c =
    λ e. subst (λ (x : Conversion). WritesPrefixOfAdded x c.args.piece.now (g.W.Write.contents c.args.writer.now.inner) (g.W.Write.contents c.feed.new.out.inner)) c.self.view_is
    (fed_part c.args.piece.now c.filed.ensures.grows (c.self.invariant.listening (going_on c.self.view_is c.in_ok-refuse.ensures.going)) (sink_of c.in-Err.stopped _ _ _ c.from.ensures c.in-Err.ensures.fault e))

pub returns-in-Err-clause-device : goal.returns-in-Err-clause-device
returns-in-Err-clause-device g c =
    let d = c.self.invariant.drained (going_on c.self.view_is c.in_ok-refuse.ensures.going) in
    writer_at ⊤ c.in-Err.stopped c.args.writer.now c.feed.new.out c.from.ensures c.in-Err.ensures.fault absurd
    (λ k. let e = piece_fine g.W.Write.contents (up_to_limit c.self.inside.framer c.args.piece.now) k.passes d in (e.1, e.2)) (λ k. piece_failed g.W.Write.contents c.args.piece.now k d)
