use Rattle.rtcm_convert.proofs.CountLemmas.{counted_once}
use Rattle.rtcm_convert.proofs.laws.counts.Goals as goal

pub returns : goal.returns
returns c = counted_once c.kinds.ensures
