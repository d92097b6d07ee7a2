use Rattle.rtcm_inspect.proofs.Names.{IsWeekAt, is_denied_at, first_msm, rests_in, whole_in, ◌≡◌, ◌∙◌, ℕ, IfSome, Option, Some, ap, false, subst, sym}
use Rattle.rtcm_inspect.proofs.PrintedWeekLemmas.{at_noon, not_denied, other_said}
use Rattle.rtcm_inspect.proofs.printed_week.dated_week.Goals as goal

pub returns-in-Some-other_time : goal.returns-in-Some-other_time
returns-in-Some-other_time c = λ fs h.
    let s = c.args.signals.now in
    let leap = c.leap_at-leap.ensures in
    let week = at_noon c.week_for-week.result c.args.noon c.leap_at-leap.result c.set_had.result s.station fs (c.first_tow.ensures ∙ h.first.tows.first c.leap_at-leap.result c.set_had.result) (c.set_had.ensures fs h) leap c.week_for-week.ensures in
    other_said c.args.noon c.in-Some.week c.in-Some-other_time.time c.week_date.result s.station fs (c.first_msm-first.ensures fs h ∙ ap (λ (n : ℕ). first_msm n s.station fs) leap)
    (subst (IsWeekAt c.args.noon s.station fs) c.in-Some.is week) (c.in-Some-other_time.ensures (whole_in s.station fs) (rests_in s.station fs) h.weeks.whole h.weeks.rests) c.week_date.ensures

pub returns-in_default-other_time : goal.returns-in_default-other_time
returns-in_default-other_time c = λ fs h.
    let s = c.args.signals.now in
    let leap = c.leap_at-leap.ensures in
    let week = at_noon c.week_for-week.result c.args.noon c.leap_at-leap.result c.set_had.result s.station fs (c.first_tow.ensures ∙ h.first.tows.first c.leap_at-leap.result c.set_had.result) (c.set_had.ensures fs h) leap c.week_for-week.ensures in (
      subst (IsWeekAt c.args.noon s.station fs) c.in-Some.is week,
      not_denied c.args.noon c.in-Some.week s.station fs (c.first_msm-first.ensures fs h ∙ ap (λ (n : ℕ). first_msm n s.station fs) leap)
          (c.in_default-other_time.ensures (whole_in s.station fs) (rests_in s.station fs) h.weeks.whole h.weeks.rests),
      ap Some leap,
    )

pub returns-in_default : goal.returns-in_default
returns-in_default c = λ fs h.
    let s = c.args.signals.now in
    let leap = c.leap_at-leap.ensures in (
      at_noon c.week_for-week.result c.args.noon c.leap_at-leap.result c.set_had.result s.station fs (c.first_tow.ensures ∙ h.first.tows.first c.leap_at-leap.result c.set_had.result) (c.set_had.ensures fs h) leap c.week_for-week.ensures,
      subst (λ (o : Option ℕ). IfSome o (λ n. is_denied_at c.args.noon s.station fs n ≡ false)) (sym c.in_default.is) tt,
      ap Some leap,
    )
