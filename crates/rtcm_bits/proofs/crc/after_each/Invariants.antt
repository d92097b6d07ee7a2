use Rattle.rtcm_bits.proofs.Names.{take, bits_of, ProcessesBits}
use Rattle.rtcm_bits.proofs.crc.after_each.Given as goal

abbrev pub invariant-loop-byte : goal.invariant-loop-byte
invariant-loop-byte l = ProcessesBits (bits_of (take l.byte-index l.bytes)) l.register l.after
