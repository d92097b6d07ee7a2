use Rattle.rtcm_inspect.proofs.Names.{◌∙◌, Some, ap, sym}
use Rattle.rtcm_inspect.proofs.printed_week.sent_week.Goals as goal

pub returns-in-One : goal.returns-in-One
returns-in-One c = λ fs h.
    (c.in-One.zero, sym h.weeks.whole.first ∙ c.in-One.is, ap Some (c.week_by.ensures fs h), ap Some (c.leap_by.ensures fs h))

pub returns-in-Several : goal.returns-in-Several
returns-in-Several c = λ fs h.
    (c.in-Several.zero, c.in-Several.other, sym h.weeks.whole.first ∙ c.in-Several.is, c.week_by-week.ensures fs h, c.week_by-other.ensures fs h)
