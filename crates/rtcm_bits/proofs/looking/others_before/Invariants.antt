use Rattle.rtcm_bits.proofs.Names.{◌≢◌, ◌<◌, ◌*◌, ℕ, slice_index}
use Rattle.rtcm_bits.proofs.looking.others_before.Given as goal

abbrev pub invariant-loop-turn : goal.invariant-loop-turn
invariant-loop-turn l = (k : ℕ) → k < 4 * l.turn → slice_index l.bytes k ≢ l.byte
