use Rattle.rtcm_bits.proofs.Names.{◌≢◌, ◌<◌, ℕ, slice_index}
use Rattle.rtcm_bits.proofs.looking.others_from.Given as goal

abbrev pub invariant-loop-i : goal.invariant-loop-i
invariant-loop-i l = (k : ℕ) → k < l.i → slice_index l.bytes k ≢ l.byte
