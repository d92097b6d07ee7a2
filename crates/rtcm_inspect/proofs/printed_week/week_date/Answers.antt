use Rattle.rtcm_inspect.proofs.Names.{WeekDate, ◌/◌, ap₂, ℕ, Civil, week}
use Rattle.rtcm_inspect.proofs.printed_week.week_date.Goals as goal

dated : ℕ → Civil → WeekDate
dated n d = record { week = n / week; year = d.year; month = d.month; day = d.day }

pub returns : goal.returns
unfolding dated
returns c = ap₂ dated c.milliseconds.ensures.value c.civil-civil.ensures.walk
