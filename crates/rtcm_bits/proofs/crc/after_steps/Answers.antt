use Rattle.rtcm_bits.proofs.Names.{◌≡◌, ◌+◌, ◌*◌, ◌-◌, ◌≤◌, ℕ, length, drop, ap, ◌∙◌, arith, length-append, length-drop, crc, fold_into}
use Rattle.rtcm_bits.proofs.LongLemmas.{long_step}
use Rattle.rtcm_bits.proofs.crc.after_steps.Goals as goal

pub loop-i-preserved : goal.loop-i-preserved
loop-i-preserved c =
    let t : ℕ = c.args.start + 16 * c.loop-i.i in
    let z : t + 16 - t ≡ 16 = omega arith in
    let i : t + 112 ≤ length c.args.bytes.now = omega (arith, c.requires.within, c.loop-i-test.true) in
    record {
      whole = ap length c.moved-folded.ensures ∙ length-append (drop 16 c.loop-i.folded) c.next-next.result
          ∙ omega (arith, length-drop 16 c.loop-i.folded, c.loop-i.invariant.whole, c.next-next.ensures.long);
      same = c.loop-i.invariant.same
          ∙ long_step c.loop-i.folded c.args.bytes.now t i (record { whole = c.loop-i.invariant.whole; size = z; added = c.next-next.ensures.added; moved = c.moved-folded.ensures })
          ∙ ap (λ (n : ℕ). crc (fold_into c.moved-folded.result (drop n c.args.bytes.now))) (omega arith);
    }
