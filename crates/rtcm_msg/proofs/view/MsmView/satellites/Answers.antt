use Rattle.rtcm_msg.proofs.Names.{arith, common_steps}
use Rattle.rtcm_msg.proofs.ViewLaws.{satellites_counted}
use Rattle.rtcm_msg.proofs.view.MsmView.satellites.Goals as goal

pub returns : goal.returns
returns c = grind (arith, common_steps, satellites_counted)
