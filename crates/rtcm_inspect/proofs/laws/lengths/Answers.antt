use Rattle.rtcm_inspect.proofs.LengthLemmas.{height_read, position_read}
use Rattle.rtcm_inspect.proofs.RangeLemmas.{first_in_range}
use Rattle.rtcm_inspect.proofs.laws.lengths.Goals as goal

pub returns : goal.returns
returns c = record { positions = position_read; heights = height_read; first = first_in_range }
