use Rattle.rtcm_inspect.proofs.Names.{first_msm, time_in, within_weeks, ◌∙◌, ◌/◌, ℕ, ap, ap₂, week}
use Rattle.rtcm_inspect.proofs.printed_week.week_by.Goals as goal

pub returns : goal.returns
returns c = λ fs h.
    let s = c.args.signals.now in
    ap (λ (n : ℕ). n / week) (c.milliseconds.ensures.value ∙ c.within_weeks.ensures ∙ ap within_weeks (c.time_in.ensures ∙ ap₂ time_in c.from.ensures (c.first_msm-first.ensures fs h)))
    ∙ ap (λ (n : ℕ). within_weeks (time_in c.args.zero (first_msm n s.station fs)) / week) (c.leap_by.ensures fs h)
