-- What was read so far was fed, so the framer, the sink and its output are those of these bytes; the loop ends at a
-- fault, or when the reader has no byte.
use Rattle.rtcm_scan.proofs.Names.{◌∙◌, arith, refl, take, length, BreaksAfter, wrapped}
use Rattle.rtcm_scan.proofs.PassingLemmas.{unwrapped}
use Rattle.rtcm_scan.proofs.ReadLemmas.{reading_more, at_each, reads_none, reads_more, limit_more, breaks_more, breaks_first}
use Rattle.rtcm_scan.proofs.framer.Framer.read_pieces.Goals as goal

pub returns-in_err-map_err-clause-fault : goal.returns-in_err-map_err-clause-fault
returns-in_err-map_err-clause-fault g c =
    let left = g.R.Read.remaining c.args.reader.now.inner in
    let part : BreaksAfter g.S.FrameSink.took g.S.FrameSink.broke c.args.self.now c.args.sink.now c.args.out.now c.args.self.now c.args.sink.now c.send.new.out (length c.args.buffer.now) left left =
    breaks_first g.S.FrameSink.took g.S.FrameSink.broke c.args.sink.now c.args.out.now c.send.new.out (unwrapped _ c.send.result _ _ c.send.ensures.part c.map_err.ensures.cases c.in_err-map_err.was) in
    grind (arith, part, c.map_err.ensures.cases, c.in_err-map_err.was, c.from_residual.ensures)

pub loop-n-init : goal.loop-n-init
loop-n-init g c = record {
  came = reads_none g.S.FrameSink.took g.S.FrameSink.broke c.args.self.now c.args.sink.now c.args.out.now c.send.new.out (g.R.Read.remaining c.args.reader.now.inner) (wrapped _ (λ _. _) c.send.result _ _ c.send.ensures.whole c.map_err.ensures.cases c.in_ok-map_err.was);
  same = record { can = c.requires.can; limit = refl; ended = refl; some = λ h. h; size = refl };
  sent = wrapped _ (λ _. _) c.send.result _ _ c.send.ensures.sent c.map_err.ensures.cases c.in_ok-map_err.was;
  reader = refl;
  widest = omega arith;
}

pub returns-in-Err-feed-clause-fault : goal.returns-in-Err-feed-clause-fault
returns-in-Err-feed-clause-fault g c =
    let i = c.loop-n.invariant in
    at_each c.in-Err-feed.fault (λ a. absurd a)
    (limit_more g.S.FrameSink.took g.S.FrameSink.broke _ i.same i.came c.in-Ok.ensures.piece c.feed.ensures.same)
    (breaks_more g.S.FrameSink.took g.S.FrameSink.broke (c.requires.going, c.read_piece.ensures.size) i.same i.came c.in-Ok.ensures.piece c.feed.ensures.same) c.in-Err-feed.ensures.fault

pub loop-n-preserved : goal.loop-n-preserved
loop-n-preserved g c =
    let i = c.loop-n.invariant in
    record {
      came = reads_more g.S.FrameSink.took g.S.FrameSink.broke _ _ _ i.came (take c.in-Ok.n c.read_piece.new.buffer, c.in-Ok.ensures.piece.consumes, (c.in_default.ensures.whole, c.in_default.ensures.taken));
      same = reading_more i.same c.feed.ensures.goes c.feed.ensures.same c.read_piece.ensures.size;
      sent = c.in_default.ensures.sent;
      reader = c.in-Ok.ensures.failures ∙ i.reader;
      widest = omega (arith, c.read_piece.ensures.widest, i.widest, i.same.size);
    }
