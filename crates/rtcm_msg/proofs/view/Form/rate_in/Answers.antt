use Rattle.rtcm_msg.proofs.Names.{arith, common_steps}
use Rattle.rtcm_msg.proofs.ContentLaws.{rate_read}
use Rattle.rtcm_msg.proofs.SignedLaws.{narrower}
use Rattle.rtcm_msg.proofs.view.Form.rate_in.Goals as goal

pub returns-then-has_rates : goal.returns-then-has_rates
returns-then-has_rates c = grind (arith, common_steps, rate_read, narrower)
