use Rattle.rtcm_bits.proofs.Names.{◌≡◌, ◌-◌, length, drop, crc}
use Rattle.rtcm_bits.proofs.crc.after_some.Given as goal

abbrev pub invariant-loop-k : goal.invariant-loop-k
invariant-loop-k l = l.sum ≡ crc (drop (length l.bytes - l.k) l.bytes)
