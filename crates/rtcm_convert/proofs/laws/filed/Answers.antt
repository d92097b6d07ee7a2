use Rattle.rtcm_convert.proofs.TextLemmas.{so_far-more, so_far-all, so_far-none}
use Rattle.rtcm_convert.proofs.laws.filed.Goals as goal

pub returns : goal.returns
returns c = record { file = so_far-all c.closed_stay.ensures.first; grows = so_far-more c.closed_stay.ensures.stay; nothing = so_far-none c.closed_stay.ensures.none }
