use Rattle.rtcm_scan.proofs.Names.{ap, ◌∙◌, ◌<◌, ◌≤◌, arith, length, take, slice_index}
use Rattle.rtcm_scan.proofs.CandidateLemmas.{taken_more, looked_more}
use Rattle.rtcm_scan.proofs.front.examine_header.Goals.{then-held-candidate-eq1, else-held-candidate-eq1}
use Rattle.rtcm_scan.proofs.front.examine_header.Goals as goal

pub loop-candidate-preserved : goal.loop-candidate-preserved
loop-candidate-preserved c =
    let s = c.args.window.now.bytes in
    let k = c.loop-candidate.candidate.count in
    let e : c.if-held-candidate-eq1.end ≤ c.held-held.result = elim c.if-held-candidate-eq1.branch [
      | then-held-candidate-eq1 w ↦ omega (arith, w.end-is)
      | else-held-candidate-eq1 w ↦ omega (arith, w.end-is, w.min-end.ensures)
    ] in
    let l : c.loop-candidate.candidate.count < length c.args.window.now.bytes = omega (arith, e, c.if-candidate-end.true, c.held-held.ensures.value) in
    let n = c.take.ensures.count in
    record {
      taken = taken_more c.take.new.self s k c.look-byte.result (c.take.ensures.taken (take k s) c.loop-candidate.invariant.taken) n l
          (c.look-byte.ensures.byte ∙ ap (λ b. slice_index b k) c.loop-candidate.invariant.bytes);
      within = omega (arith, n, l);
      more = omega (arith, n, c.loop-candidate.invariant.more);
      window = looked_more c.args.window.now c.loop-candidate.invariant.more n c.loop-candidate.invariant.window c.look-byte.ensures.counted;
      bytes = ap (λ w. w.bytes) c.look-byte.ensures.counted ∙ c.loop-candidate.invariant.bytes;
    }
