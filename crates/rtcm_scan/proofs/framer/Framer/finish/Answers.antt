use Rattle.rtcm_scan.proofs.Names.{◌∙◌, ap, sym, subst, Bool, List, on_ok_weaker, on_err_weaker, IsPrefix, Framed, known_frames, FramerValue, prefix_self, true≢false}
use Rattle.rtcm_scan.proofs.framer.Framer.finish.Goals as goal

pub returns-clause-whole : goal.returns-clause-whole
returns-clause-whole g c =
    on_ok_weaker c.send.result (λ send s o ps b fs x.
    let d = c.in_ok-drain_into.ensures.whole s o ps b fs (record { framer = c.end.ensures.history b fs x.framer; taken = x.taken }) (λ ready going. absurd (true≢false (sym (ap (λ (v : FramerValue). v.has_ended) c.end.ensures.ended) ∙ going))) in
    record {
      passed = record { framer = d.passed.framer; taken = send s o ps (known_frames c.drain_into.new.self.has_ended b) d.passed.taken };
      drained = d.drained;
    }) c.send.ensures.whole

pub returns-clause-part : goal.returns-clause-part
returns-clause-part g c =
    on_err_weaker c.send.result (λ send s o ps b fs x.
    let f = c.end.ensures.history b fs x.framer in
    let d = c.in_ok-drain_into.ensures.whole s o ps b fs (record { framer = f; taken = x.taken }) (λ ready going. absurd (true≢false (sym (ap (λ (v : FramerValue). v.has_ended) c.end.ensures.ended) ∙ going))) in
    let gs : List Framed = known_frames c.drain_into.new.self.has_ended b in
    record {
      taken = gs;
      reached = gs;
      first = subst (λ (e : Bool). IsPrefix fs (known_frames e b)) (sym c.drain_into.ensures.ended) f.history.first;
      known = subst (λ (e : Bool). IsPrefix gs (known_frames e b)) (c.drain_into.ensures.ended ∙ ap (λ (v : FramerValue). v.has_ended) c.end.ensures.ended) (prefix_self gs);
      broken = send s o ps gs d.passed.taken;
    }) c.send.ensures.part
