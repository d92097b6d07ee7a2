use Rattle.rtcm_msg.proofs.Names.{arith, common_steps}
use Rattle.rtcm_msg.proofs.ViewLaws.{cells_counted}
use Rattle.rtcm_msg.proofs.view.MsmView.cells.Goals as goal

pub returns : goal.returns
returns c = grind (arith, common_steps, cells_counted)
