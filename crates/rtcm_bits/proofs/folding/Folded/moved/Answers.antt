use Rattle.rtcm_bits.proofs.FoldLemmas.{vectors_moved}
use Rattle.rtcm_bits.proofs.folding.Folded.moved.Goals as goal
use Rattle.std.proofs.Common.{arith}

pub returns : goal.returns
returns c = grind (arith, vectors_moved)
