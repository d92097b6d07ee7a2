use Rattle.rtcm_inspect.proofs.SaidTimeLemmas.{has_greatest, nearest_time, weeks_said}
use Rattle.rtcm_inspect.proofs.SentWeekLemmas.{counted_from_start, in_sent_week}
use Rattle.rtcm_inspect.proofs.laws.week.Goals as goal

pub returns : goal.returns
returns c = record { counted = counted_from_start; sent = in_sent_week; said = weeks_said; near = nearest_time; some = has_greatest }
