use Rattle.rtcm_msg.proofs.Names.{arith, common_steps, to_z-of_z}
use Rattle.rtcm_msg.proofs.ContentLaws.{cell_unpacked}
use Rattle.rtcm_msg.proofs.SignedLaws.{narrower}
use Rattle.rtcm_msg.proofs.view.Form.cell_of.Goals as goal

pub returns-then-has_rates : goal.returns-then-has_rates
returns-then-has_rates c = grind (arith, common_steps, to_z-of_z, cell_unpacked, narrower)
