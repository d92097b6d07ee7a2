use Rattle.rtcm_scan.proofs.Names.{[], ◌∷◌, ◌++◌, ◌∙◌, frame_at, Framed}
use Rattle.rtcm_scan.proofs.PassingLemmas.{prefix_one_more}
use Rattle.rtcm_scan.proofs.framer.Framer.drain_into.Goals as goal

pub loop-offset-preserved : goal.loop-offset-preserved
loop-offset-preserved g c =
    let i = c.loop-offset.invariant in
    let n = c.in-Some.ensures.next in
    let f : Framed = frame_at c.in-Some.offset c.next_into.new.message.items in
    record {
      passed = λ s o ps b fs x. (let k = i.passed s o ps b fs x in
          (k.0 ++ f ∷ [], prefix_one_more fs k.0 f k.1, record { framer = (n.some.returned b k.0 k.2.framer).0; taken = c.in_ok-take.ensures.whole s o ps k.0 k.2.taken }));
      can = c.take.ensures.goes;
      ended = n.same.ended ∙ i.ended;
      limit = n.same.limit ∙ i.limit;
      taken = n.same.taken ∙ i.taken;
      some = λ h. (let m = i.some h in (m.0, m.1 ++ f ∷ [], (n.some.returned m.0 m.1 m.2).0));
    }
