use Rattle.rtcm_bits.proofs.Names.{◌≡◌, ◌+◌, ◌-◌, ◌≤◌, length, drop, uint, bits_of, crc, fold_into, after_bits}
use Rattle.rtcm_bits.proofs.crc.after_long.Given as goal

abbrev pub invariant-loop-taken : goal.invariant-loop-taken
invariant-loop-taken l = record {
  within : l.taken + 96 ≤ length l.bytes;
  whole : length l.folded ≡ 96;
  same : after_bits (uint 24 l.register) (bits_of l.bytes) ≡ uint 24 (crc (fold_into l.folded (drop l.taken l.bytes)));
}

abbrev pub decreases-loop-taken : goal.decreases-loop-taken
decreases-loop-taken l = length l.bytes - l.taken
