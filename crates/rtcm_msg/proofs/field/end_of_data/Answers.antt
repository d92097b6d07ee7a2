use Rattle.rtcm_msg.proofs.Names.{arith, common_steps}
use Rattle.rtcm_msg.proofs.RowLaws.{end_there}
use Rattle.rtcm_msg.proofs.field.end_of_data.Goals as goal

pub returns-then-end-bytes-clause-exact : goal.returns-then-end-bytes-clause-exact
returns-then-end-bytes-clause-exact c = grind (arith, common_steps, end_there)
