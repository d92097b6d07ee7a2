use Rattle.rtcm_msg.proofs.Names.{arith, common_steps}
use Rattle.rtcm_msg.proofs.ChannelLaws.{all_left, all_sent, none_left, none_sent}
use Rattle.rtcm_msg.proofs.view.MsmView.sent_channels.Goals as goal

pub invariant_of-result : goal.invariant_of-result
invariant_of-result c = grind (arith, common_steps, all_left, none_left)

pub returns : goal.returns
returns c = grind (arith, common_steps, all_sent, none_sent)
