-- The week of the options.
use Rattle.rtcm_inspect.proofs.Names.{min, week, weeks, greatest_at_first, leap_at, IsNearestRest, IsOtherTime, first_msm, is_denied, rests_in, whole_in, WeekDate, FirstMsm, AreOptionsRefused, HasSignals, IsWeekAt, IsWeekRefused, is_denied_at, InspectFault, FirstTows, MsmTow, AreTows, earliest, greatest_among, systems, common_steps, ◌≡◌, ◌∙◌, ◌+◌, ◌-◌, ◌*◌, ◌/◌, ◌<◌, ℕ, false, true, List, Option, Some, IfSome, IsWeekFor, frames_of, ap₂, arith, first_tow, set_had, option_and_then, option_or, refl, subst, Framed, MsmSet, week_date, WeekSource}
use Rattle.rtcm_inspect.specs.declared.fault.InspectFault.TheVariants as faults
use Rattle.rtcm_inspect.specs.declared.printed_week.WeekSource.TheVariants.{Near}
use Rattle.rtcm_inspect.proofs.CountedLemmas.{at_none}

-- ---- the greatest time at the first MSM of a set

module _ {x : FirstTows} {wanted : Option ℕ} {fs : List Framed} (h : AreTows x wanted fs) (set : MsmSet) where
  pub at_first_msm : IfSome (greatest_among set x.tows) (λ t. t < weeks * week) × (option_or (greatest_among set x.tows) x.greatest ≡ greatest_at_first set wanted fs)
  at_first_msm = by (earliest set x.tows systems) refl where
    by : (o : Option MsmTow) → earliest set x.tows systems ≡ o → IfSome (option_and_then (λ t. t.greatest) o) (λ t. t < weeks * week) × (option_or (option_and_then (λ t. t.greatest) o) x.greatest ≡ greatest_at_first set wanted fs)
    by o h1 = grind (arith, common_steps, at_none)

-- ---- the nearest week with a rest

abbrev span : ℕ
span = 1_024 * week

abbrev half_span : ℕ
half_span = 512 * week

pub nearest : (noon tow rest : ℕ) → rest < 1_024
    → IsNearestRest noon tow rest (rest + 1_024 * min (((noon + half_span - 1) - (rest * week + tow)) / span) ((weeks - 1 - rest) / 1_024))
nearest noon tow rest small = grind arith

-- ---- a week that is refused

pub week_refused : (source : WeekSource) (wanted : Option ℕ) (b : List ℕ) (fault : InspectFault) → HasSignals wanted (frames_of b) → IsWeekRefused source wanted (frames_of b) fault → AreOptionsRefused source wanted b fault
week_refused source wanted b fault signals h = grind arith

-- ---- a week near a date

pub at_noon : {tow : Option ℕ} (w : Option ℕ) (noon leap : ℕ) (set : MsmSet) (wanted : Option ℕ) (fs : List Framed) → tow ≡ first_tow leap set wanted fs → set ≡ set_had wanted fs → leap ≡ leap_at noon
    → IsWeekFor (Some noon) tow w → IsWeekAt noon wanted fs w
at_noon w noon leap set wanted fs first had by h =
    subst (λ (t : Option ℕ). IsWeekFor (Some noon) t w) (first ∙ ap₂ (λ (s : MsmSet) (n : ℕ). first_tow n s wanted fs) had by) h

pub other_said : {x : FirstMsm} (noon w t : ℕ) (date : WeekDate) (wanted : Option ℕ) (fs : List Framed) → x ≡ first_msm (leap_at noon) wanted fs → IsWeekAt noon wanted fs (Some w)
    → (is_denied x (whole_in wanted fs) (rests_in wanted fs) w ≡ true) × IsOtherTime noon x (whole_in wanted fs) (rests_in wanted fs) t → date ≡ week_date t → IsWeekRefused (Near noon) wanted fs (faults.OtherWeek date)
other_said noon w t date wanted fs first at h is =
    let both = subst (λ (y : FirstMsm). (is_denied y (whole_in wanted fs) (rests_in wanted fs) w ≡ true) × IsOtherTime noon y (whole_in wanted fs) (rests_in wanted fs) t) first h in
    (w, at, both.0, (t, both.1, is))

pub not_denied : {x : FirstMsm} (noon w : ℕ) (wanted : Option ℕ) (fs : List Framed) → x ≡ first_msm (leap_at noon) wanted fs → is_denied x (whole_in wanted fs) (rests_in wanted fs) w ≡ false
    → is_denied_at noon wanted fs w ≡ false
not_denied noon w wanted fs first h = subst (λ (y : FirstMsm). is_denied y (whole_in wanted fs) (rests_in wanted fs) w ≡ false) first h

-- ---- what the ephemerides say of a week
