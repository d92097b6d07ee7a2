use Rattle.rtcm_bits.proofs.Names.{arith}
use Rattle.rtcm_bits.proofs.FoldLemmas.{start_folded}
use Rattle.rtcm_bits.proofs.crc.after_long.Goals as goal

pub loop-taken-init : goal.loop-taken-init
loop-taken-init c = grind (arith, start_folded)
