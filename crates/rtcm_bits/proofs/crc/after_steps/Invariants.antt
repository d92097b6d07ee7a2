use Rattle.rtcm_bits.proofs.Names.{◌≡◌, ◌+◌, ◌*◌, length, drop, crc, fold_into}
use Rattle.rtcm_bits.proofs.crc.after_steps.Given as goal

abbrev pub invariant-loop-i : goal.invariant-loop-i
invariant-loop-i l = record {
  whole : length l.folded ≡ 96;
  same : crc (fold_into l.fn.first (drop l.start l.bytes)) ≡ crc (fold_into l.folded (drop (l.start + 16 * l.i) l.bytes));
}
