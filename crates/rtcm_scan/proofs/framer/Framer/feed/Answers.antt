use Rattle.rtcm_scan.proofs.Names.{subst, take_all, List, ℕ, take, Passes, arith, wrapped}
use Rattle.rtcm_scan.proofs.PassingLemmas.{passes_sent, breaks_sent, unwrapped}
use Rattle.rtcm_scan.proofs.framer.Framer.feed.Goals as goal

pub returns-in_err-map_err-clause-fault : goal.returns-in_err-map_err-clause-fault
returns-in_err-map_err-clause-fault g c =
    let took = wrapped _ _ c.take_piece.result _ _ c.take_piece.ensures.whole c.map_err.ensures.cases c.in_ok-taken.was in
    let part = breaks_sent g.S.FrameSink.took g.S.FrameSink.broke c.args.piece.now c.in_ok-taken.taken c.requires.going c.take_piece.ensures.same.ended took.passes (unwrapped _ c.send.result _ _ c.send.ensures.part c.map_err-2.ensures.cases c.in_err-map_err.was) in
    grind (arith, part, c.map_err-2.ensures.cases, c.in_err-map_err.was, c.from_residual-in_err-map_err.ensures)

pub returns-clause-whole : goal.returns-clause-whole
returns-clause-whole g c =
    let took = wrapped _ _ c.take_piece.result _ _ c.take_piece.ensures.whole c.map_err.ensures.cases c.in_ok-taken.was in
    subst (λ (l : List ℕ). Passes g.S.FrameSink.took c.args.self.now c.args.sink.now c.args.out.now c.take_piece.new.self c.take_piece.new.sink c.send.new.out l) (take_all c.in_ok-taken.taken c.args.piece.now c.if-taken-piece.false)
    (passes_sent g.S.FrameSink.took (take c.in_ok-taken.taken c.args.piece.now) (wrapped _ (λ _. _) c.send.result _ _ c.send.ensures.whole c.map_err-2.ensures.cases c.in_ok-map_err.was) took.passes)
