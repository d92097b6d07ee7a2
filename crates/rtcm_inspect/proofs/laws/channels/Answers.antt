use Rattle.line_texts.proofs.ChannelLaws.{channels_read}
use Rattle.rtcm_inspect.proofs.FirstChannelLemmas.{first_channels}
use Rattle.rtcm_inspect.proofs.StreamChannelLemmas.{stream_channels}
use Rattle.rtcm_inspect.proofs.laws.channels.Goals as goal

pub returns : goal.returns
returns c = record { read = channels_read; some = stream_channels; first = first_channels }
