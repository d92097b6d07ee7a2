use Rattle.rtcm_bits.proofs.Names.{◌-◌, ◌≤◌, length, take, bits_of, ProcessesBits}
use Rattle.rtcm_bits.proofs.crc.after_short.Given as goal

abbrev pub invariant-loop-taken : goal.invariant-loop-taken
invariant-loop-taken l = record {
  within : l.taken ≤ length l.bytes;
  steps : ProcessesBits (bits_of (take l.taken l.bytes)) l.register l.after;
}

abbrev pub decreases-loop-taken : goal.decreases-loop-taken
decreases-loop-taken l = length l.bytes - l.taken
