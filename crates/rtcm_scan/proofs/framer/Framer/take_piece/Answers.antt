-- The frames that the bytes so far decide were passed on before more bytes are pushed, up to the limit of the
-- framer.
use Rattle.rtcm_scan.proofs.Names.{◌≡◌, ◌+◌, ◌∙◌, ap, arith, length, slice_range, take, FramerValue, on_failure}
use Rattle.rtcm_scan.proofs.PassingLemmas.{at_limit, continues_same, continues_block, part_drained, part_pushed, part_breaks}
use Rattle.rtcm_scan.proofs.framer.Framer.take_piece.Goals as goal

pub returns-in_err-drain_into-clause-part : goal.returns-in_err-drain_into-clause-part
returns-in_err-drain_into-clause-part g c =
    let i = c.loop-self.invariant in
    on_failure c.from_residual.result _ (part_breaks g.S.FrameSink.took g.S.FrameSink.broke c.args.piece.now c.loop-self.taken c.requires.going i.same.ended i.passes c.in_err-drain_into.ensures.part)

pub returns-then-next-taken-clause-whole : goal.returns-then-next-taken-clause-whole
returns-then-next-taken-clause-whole g c =
    let i = c.loop-self.invariant in
    let d = c.in_ok-drain_into.ensures in
    record {
      passes = part_drained g.S.FrameSink.took (take c.loop-self.taken c.args.piece.now) i.passes d.whole;
      bound = i.bound;
      taken = c.drain_into.ensures.same.taken ∙ i.taken;
      full = λ l. (let none : c.room.result ≡ 0 = omega (arith, c.if-next-taken.true, c.min.ensures, l) in
          at_limit _ _ c.room.result (c.room.ensures.some d.ready) none c.room.ensures.within ∙ c.drain_into.ensures.same.limit ∙ i.same.limit);
      ready = d.ready;
    }

pub loop-self-preserved : goal.loop-self-preserved
loop-self-preserved g c =
    let i = c.loop-self.invariant in
    let d = c.in_ok-drain_into.ensures in
    let push = c.in-Ok.ensures in
    let same = continues_same i.same (omega arith) c.drain_into.ensures.ended c.drain_into.ensures.same in
    let size : length (slice_range c.args.piece.now c.loop-self.taken (c.loop-self.taken + c.min.result)) ≡ c.min.result = omega (arith, c.min.ensures, i.bound) in
    let taken : c.push_all.new.self.taken ≡ c.drain_into.new.self.taken + length (slice_range c.args.piece.now c.loop-self.taken (c.loop-self.taken + c.min.result)) = ap (λ (v : FramerValue). v.taken) push.ok in
    record {
      passes = part_pushed g.S.FrameSink.took c.args.piece.now c.loop-self.taken c.min.result c.requires.going same.ended
          (part_drained g.S.FrameSink.took (take c.loop-self.taken c.args.piece.now) i.passes d.whole) push.history
          (ap (λ (v : FramerValue). v.is_ready) push.ok);
      can = c.drain_into.ensures.goes;
      bound = omega (arith, c.min.ensures, i.bound);
      taken = omega (arith, taken, size, c.drain_into.ensures.same.taken, i.taken);
      same = continues_block _ size same push.ok push.within push.history;
    }
