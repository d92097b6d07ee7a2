-- Each piece that was fed keeps the record of what was made from the pieces so far; the loop ends at the first
-- fault.
use Rattle.rtcm_convert.proofs.FaultLemmas.{writer_after}
use Rattle.rtcm_convert.proofs.FinishLemmas.{left_after, not_of_finish, sent_after}
use Rattle.rtcm_convert.proofs.PartLemmas.{same_passed}
use Rattle.rtcm_convert.proofs.PiecesLemmas.{taken_then, longer_by, pieces_more, pieces_all, pieces_rest, pieces_whole, pieces_empty, pieces_long, pieces_broke, pieces_broke_at_end}
use Rattle.rtcm_convert.proofs.Names.{◌∙◌, ap, inr, refl, IfOk-weaker, IsPiecesFault, TooLong}
use Rattle.rtcm_convert.proofs.converter.Converter.take_pieces.Goals as goal

pub loop-piece-preserved : goal.loop-piece-preserved
loop-piece-preserved g c =
    let more = pieces_more (λ piece. piece.items) c.args.pieces.now c.loop-piece.piece-index c.piece-item.result c.deref.result.now (c.deref.ensures.value ∙ ap (λ v. v.items) c.piece-item.is) c.loop-piece-test.true in
    let i = c.loop-piece.invariant in
    let n = c.in_ok-feed.ensures in
    record {
      came = taken_then _ c.deref.result.now more i.came n.whole;
      taken = longer_by c.args.self.now.scan.taken _ c.deref.result.now more i.taken n.going.2;
      going = n.going.0;
      limit = n.left.0 ∙ i.limit;
      fine = n.device.1 ∙ i.fine;
      unread = n.device.2 ∙ i.unread;
    }

pub returns-in_err-feed-clause-long : goal.returns-in_err-feed-clause-long
returns-in_err-feed-clause-long g c =
    let i = c.loop-piece.invariant in
    let more = pieces_more (λ piece. piece.items) c.args.pieces.now c.loop-piece.piece-index c.piece-item.result c.deref.result.now (c.deref.ensures.value ∙ ap (λ v. v.items) c.piece-item.is) c.loop-piece-test.true in
    λ e. pieces_long _ i.came c.deref.result.now _ i.limit i.taken (pieces_rest (λ piece. piece.items) c.args.pieces.now c.loop-piece.piece-index c.deref.result.now more) (c.in_err-feed.ensures.long (same_passed c.from_residual-in_err-feed.result _ _ c.from_residual-in_err-feed.ensures.1 e))

pub returns-in_err-feed-clause-write : goal.returns-in_err-feed-clause-write
returns-in_err-feed-clause-write g c =
    let more = pieces_more (λ piece. piece.items) c.args.pieces.now c.loop-piece.piece-index c.piece-item.result c.deref.result.now (c.deref.ensures.value ∙ ap (λ v. v.items) c.piece-item.is) c.loop-piece-test.true in
    λ e. pieces_broke c.args.pieces.now c.loop-piece.piece-index c.deref.result.now c.loop-piece.invariant.came c.loop-piece-test.true more (c.in_err-feed.ensures.part (same_passed c.from_residual-in_err-feed.result _ _ c.from_residual-in_err-feed.ensures.1 e))

pub returns-clause-whole : goal.returns-clause-whole
returns-clause-whole g c =
    let all = pieces_all (λ piece. piece.items) c.args.pieces.now c.loop-piece.piece-index c.loop-piece.auto.piece-index-end c.loop-piece-test.false in
    IfOk-weaker c.finish.result _ _ (λ _. pieces_whole _ c.loop-piece.invariant.came all) c.finish.ensures.whole

pub returns-clause-empty : goal.returns-clause-empty
returns-clause-empty g c =
    let all = pieces_all (λ piece. piece.items) c.args.pieces.now c.loop-piece.piece-index c.loop-piece.auto.piece-index-end c.loop-piece-test.false in
    λ fault none e. pieces_empty _ c.loop-piece.invariant.came all (c.finish.ensures.empty fault none e)

pub returns-clause-write : goal.returns-clause-write
returns-clause-write g c =
    let all = pieces_all (λ piece. piece.items) c.args.pieces.now c.loop-piece.piece-index c.loop-piece.auto.piece-index-end c.loop-piece-test.false in
    λ e. pieces_broke_at_end _ c.loop-piece.invariant.came c.args.pieces.now all (c.finish.ensures.part e)

pub returns-clause-long : goal.returns-clause-long
returns-clause-long g c = λ e. absurd (not_of_finish _ c.finish.result (c.finish.ensures.left.0.1 c.loop-piece.invariant.going) TooLong refl e)

pub returns-clause-sent : goal.returns-clause-sent
returns-clause-sent g c = sent_after _ c.finish.result _ _ _ (c.finish.ensures.left.0.1 c.loop-piece.invariant.going) c.finish.ensures.sent

pub returns-clause-device : goal.returns-clause-device
returns-clause-device g c =
    let i = c.loop-piece.invariant in writer_after c.finish.result c.args.writer.now c.loop-piece.writer c.finish.new.writer i.fine i.unread c.finish.ensures.device

pub returns-clause-left : goal.returns-clause-left
returns-clause-left g c =
    let i = c.loop-piece.invariant in
    let n = c.finish.ensures.left in ((n.0.0 ∙ i.limit, λ _. left_after IsPiecesFault _ c.finish.result (λ f k. inr k) (n.0.1 i.going)), n.1)
