use Rattle.rtcm_inspect.proofs.Names.{leap_at, time_in, within_weeks, ◌∙◌, ap, ap₂}
use Rattle.rtcm_inspect.proofs.printed_week.leap_with.Goals as goal

pub returns : goal.returns
returns c = λ fs h.
    c.leap_at.ensures
    ∙ ap leap_at (c.within_weeks.ensures ∙ ap within_weeks (c.time_in.ensures ∙ ap₂ time_in c.from.ensures (c.first_msm.ensures fs h)))
