use Rattle.rtcm_bits.proofs.ResidueLemmas.{residue_check, residue_none}
use Rattle.rtcm_bits.proofs.laws.residue.Goals as goal

pub returns : goal.returns
returns c = λ bytes x y z h k l. (residue_check bytes x y z h k l, residue_none bytes x y z h k l)
