use Rattle.rtcm_inspect.proofs.Names.{common_steps, arith, take_all, quoted}
use Rattle.rtcm_inspect.proofs.equipment.quoted.Goals as goal

pub returns : goal.returns
unfolding quoted
returns c = grind (arith, common_steps, take_all)
