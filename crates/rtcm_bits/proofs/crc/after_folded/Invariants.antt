use Rattle.rtcm_bits.proofs.Names.{◌≡◌, ◌-◌, ◌%◌, ◌^◌, ◌<◌, ◌≤◌, ◌++◌, drop, replicate, uint, bits_of, crc, fold_into, after_bits}
use Rattle.rtcm_bits.proofs.crc.after_folded.Given as goal

abbrev pub invariant-loop-taken : goal.invariant-loop-taken
invariant-loop-taken l = record {
  within : l.taken ≤ 96;
  parts : l.taken % 16 ≡ 0;
  bound : l.after < 2 ^ 24;
  window : l.folded ≡ drop l.taken l.fn.start ++ replicate l.taken 0;
  steps : uint 24 (crc (fold_into l.fn.start l.bytes)) ≡ after_bits (uint 24 l.after) (bits_of (fold_into l.folded (drop l.taken l.bytes)));
}

abbrev pub decreases-loop-taken : goal.decreases-loop-taken
decreases-loop-taken l = 96 - l.taken
