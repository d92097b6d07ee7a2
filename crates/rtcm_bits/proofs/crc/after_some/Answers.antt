use Rattle.rtcm_bits.proofs.Names.{◌≡◌, ◌-◌, ◌∙◌, ℕ, length, drop, ap, sym, arith, crc, drop-length}
use Rattle.rtcm_bits.proofs.EntryLemmas.{entry_more, some_right}
use Rattle.rtcm_bits.proofs.RegisterLemmas.{check_nil}
use Rattle.rtcm_bits.proofs.crc.after_some.Goals as goal

pub loop-k-init : goal.loop-k-init
loop-k-init c =
    let z : length c.args.bytes.now - 0 ≡ length c.args.bytes.now = omega arith in
    check_nil ∙ sym (ap (λ (n : ℕ). crc (drop n c.args.bytes.now)) z ∙ ap crc (drop-length c.args.bytes.now))

pub loop-k-preserved : goal.loop-k-preserved
loop-k-preserved c = entry_more c.args.bytes.now c.loop-k.k c.loop-k.sum c.entry-sum.result (omega arith) c.loop-k.invariant c.entry-sum.ensures.value

pub returns : goal.returns
returns c = some_right {k = c.loop-k.k} c.args.bytes.now c.requires.below c.requires.some.0 (omega arith) c.loop-k.invariant c.entry.ensures.value c.entry-2.ensures.value c.entry-3.ensures.value
