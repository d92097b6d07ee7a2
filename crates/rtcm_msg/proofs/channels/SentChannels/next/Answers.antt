use Rattle.rtcm_msg.proofs.Names.{arith, common_steps}
use Rattle.rtcm_msg.proofs.ValueLaws.{id_within}
use Rattle.rtcm_msg.proofs.ChannelLaws.{channels_none, number_small}
use Rattle.rtcm_msg.proofs.channels.SentChannels.next.Goals as goal

pub returns-then-self-eq0-clause-none : goal.returns-then-self-eq0-clause-none
returns-then-self-eq0-clause-none c = grind (arith, common_steps, channels_none)

pub returns-clause-bounds : goal.returns-clause-bounds
returns-clause-bounds c = grind (arith, common_steps, id_within, number_small)
