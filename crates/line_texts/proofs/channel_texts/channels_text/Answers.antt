use Rattle.line_texts.proofs.ChannelLaws.{number_here, slot_none, slot_short, slot_some}
use Rattle.line_texts.proofs.channel_texts.channels_text.Goals.{in-Some, in_default}
use Rattle.line_texts.proofs.Names.{arith, common_steps}
use Rattle.line_texts.proofs.channel_texts.channels_text.Goals as goal

pub loop-i-preserved : goal.loop-i-preserved
loop-i-preserved c = grind (arith, common_steps, in-Some, number_here, slot_short, slot_some, in_default, slot_none)
