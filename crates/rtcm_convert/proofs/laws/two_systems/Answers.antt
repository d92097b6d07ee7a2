use Rattle.rtcm_convert.proofs.TwoSystemsLemmas.{messages_plain}
use Rattle.rtcm_convert.proofs.laws.two_systems.Goals as goal

pub returns : goal.returns
returns c = messages_plain c.two_systems.ensures
