use Rattle.line_texts.proofs.LengthLaws.{week_read}
use Rattle.rtcm_inspect.proofs.LeapLemmas.{leap_free}
use Rattle.rtcm_inspect.proofs.RangeLemmas.{below_week}
use Rattle.rtcm_inspect.proofs.WeekLemmas.{dated, nearest_printed, one_week}
use Rattle.rtcm_inspect.proofs.laws.near.Goals as goal

pub returns : goal.returns
returns c = record { one = one_week; printed = nearest_printed; read = week_read; dated = dated; leap = leap_free; small = below_week }
