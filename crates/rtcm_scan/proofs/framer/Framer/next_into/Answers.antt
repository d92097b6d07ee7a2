use Rattle.rtcm_scan.proofs.Names.{ap, ◌∙◌, arith, frame_at, FramerValue}
use Rattle.rtcm_scan.proofs.NextLemmas.{found, counts_found, less_found}
use Rattle.rtcm_scan.proofs.ScanLemmas.{same_framed}
use Rattle.rtcm_scan.proofs.framer.Framer.next_into.Goals as goal

pub returns-clause-next : goal.returns-clause-next
returns-clause-next c =
    let seek = c.in_ok-size.ensures in
    let f = seek.some.begins in
    let same = seek.same in
    let is = same_framed (frame_at c.take_frame.result c.take_frame.new.message.items) (found c.seek.new.self) c.take_frame.ensures.offset c.take_frame.ensures.message in
    let l = less_found c.seek.new.self c.take_frame.new.self c.in_ok-size.size c.take_frame.ensures.taken f.1 f.0 in
    record {
      some = record {
        returned = λ b fs s. counts_found c.seek.new.self c.take_frame.ensures.taken f.1 f.0 is f.2 (seek.some.history b fs s);
        waits = ap (λ (v : FramerValue). v.is_ready) c.take_frame.ensures.taken ∙ seek.some.waits;
        less = omega (arith, l, same.held);
      };
      none = tt;
      same = record {
        held = omega (arith, l, same.held);
        limit = ap (λ (v : FramerValue). v.limit) c.take_frame.ensures.taken ∙ same.limit;
        taken = ap (λ (v : FramerValue). v.taken) c.take_frame.ensures.taken ∙ same.taken;
        ended = ap (λ (v : FramerValue). v.has_ended) c.take_frame.ensures.taken ∙ same.ended;
      };
    }
