use Rattle.rtcm_msg.proofs.Names.{common_steps, arith}
use Rattle.rtcm_msg.proofs.WritingSteps.{column_put}
use Rattle.rtcm_msg.proofs.writing.write_column.Goals as goal

pub loop-number-preserved : goal.loop-number-preserved
loop-number-preserved c = grind (arith, common_steps, column_put)
