-- The output of the command `options`.
use Rattle.std.specs.Prelude.{◌≡◌, ℕ, ◌<◌, Bool, false, true, List, [], length, Option, Some, None, IfSome}
use Rattle.rtcm_scan.specs.Frames.{Framed, frames_of}
use Rattle.rtcm_inspect.specs.FaultWords.{week_date}
use Rattle.rtcm_inspect.specs.FirstMessages.{mixed}
use Rattle.rtcm_inspect.specs.FirstTwo.{first_two}
use Rattle.rtcm_inspect.specs.WeekLaws.{first_tow}
use Rattle.rtcm_inspect.specs.Fitting.{options_text}
use Rattle.line_texts.specs.LeapSeconds.{leap_at}
use Rattle.rtcm_inspect.specs.NearWeek.{IsWeekFor}
use Rattle.rtcm_inspect.specs.SentWeeks.{IsOtherTime, first_msm, is_denied, leap_by, rests_in, week_by, whole_in}
use Rattle.rtcm_inspect.specs.Signals.{set_had, valued_in}
use Rattle.rtcm_inspect.specs.StreamCounts.{stream_counts}
use Rattle.rtcm_inspect.specs.declared.fault.InspectFault.{InspectFault}
use Rattle.rtcm_inspect.specs.declared.fault.InspectFault.TheVariants as faults
use Rattle.rtcm_inspect.specs.declared.first_two.FirstTwo.TheVariants.{One, Several}
use Rattle.rtcm_inspect.specs.declared.printed_week.WeekSource.{WeekSource}
use Rattle.rtcm_inspect.specs.declared.printed_week.WeekSource.TheVariants.{Unprinted, Near, Ephemerides}

-- ---- the week

-- the week nearest to noon, by the leap seconds of its date
abbrev pub IsWeekAt : (noon : ℕ) → Option ℕ → List Framed → (w : Option ℕ) → Type 0
IsWeekAt noon wanted fs w = IsWeekFor (Some noon) (first_tow (leap_at noon) (set_had wanted fs) wanted fs) w

-- the ephemerides deny that the first MSM is in week w, by the leap seconds of the date of noon
abbrev pub is_denied_at : (noon : ℕ) → Option ℕ → List Framed → (w : ℕ) → Bool
is_denied_at noon wanted fs w =
    is_denied (first_msm (leap_at noon) wanted fs) (whole_in wanted fs) (rests_in wanted fs) w

-- The week and the leap seconds that are printed for these frames: none; those of the date of noon, with the nearest
-- week, which isn't denied; or those that are all said by the ephemerides with whole weeks.
abbrev pub IsPrinted : WeekSource → (wanted : Option ℕ) → List Framed → (w leap : Option ℕ) → Type 0
IsPrinted Unprinted wanted fs w leap = (w ≡ None) × (leap ≡ None)
IsPrinted (Near noon) wanted fs w leap =
    IsWeekAt noon wanted fs w × IfSome w (λ n. is_denied_at noon wanted fs n ≡ false) × (leap ≡ Some (leap_at noon))
IsPrinted Ephemerides wanted fs w leap =
    (d : ℕ) × (first_two (whole_in wanted fs) ≡ One d) × (w ≡ Some (week_by wanted fs d))
    × (leap ≡ Some (leap_by wanted fs d))

-- The ephemerides say no week, or these two; or they deny the week nearest to noon, and the first one says another.
abbrev pub IsWeekRefused : WeekSource → (wanted : Option ℕ) → List Framed → InspectFault → Type 0
IsWeekRefused Ephemerides wanted fs faults.NoWeek = whole_in wanted fs ≡ []
IsWeekRefused Ephemerides wanted fs (faults.SeveralWeeks a b) =
    (d : ℕ) × (e : ℕ) × (first_two (whole_in wanted fs) ≡ Several d e) × (a ≡ week_by wanted fs d)
    × (b ≡ week_by wanted fs e)
IsWeekRefused (Near noon) wanted fs (faults.OtherWeek date) =
    (w : ℕ) × IsWeekAt noon wanted fs (Some w) × (is_denied_at noon wanted fs w ≡ true) × ((t : ℕ)
    × IsOtherTime noon (first_msm (leap_at noon) wanted fs) (whole_in wanted fs) (rests_in wanted fs) t
    × (date ≡ week_date t))
IsWeekRefused source wanted fs other = ⊥

-- ---- the line

-- the messages of one station count, and one of their cells has a value
abbrev pub HasSignals : (wanted : Option ℕ) → List Framed → Type 0
HasSignals wanted fs = (mixed wanted fs ≡ None) × (0 < length (valued_in wanted fs))

-- the text is the line of the options that fit these frames
abbrev pub AreOptionsOf : WeekSource → (wanted : Option ℕ) → List Framed → List ℕ → Type 0
AreOptionsOf source wanted fs text = HasSignals wanted fs × ((w : Option ℕ) × (leap : Option ℕ)
    × IsPrinted source wanted fs w leap × (text ≡ options_text w leap wanted fs))

-- Of this stream the messages of several stations count, of which these are the first two; or of one, and no cell has a
-- value, and these are its numbers, or the week is refused.
abbrev pub AreOptionsRefused : WeekSource → Option ℕ → List ℕ → InspectFault → Type 0
AreOptionsRefused source wanted b (faults.SeveralStations first other) =
    mixed wanted (frames_of b) ≡ Some (first, other)
AreOptionsRefused source wanted b (faults.NoSignal counts) = (mixed wanted (frames_of b) ≡ None)
    × (valued_in wanted (frames_of b) ≡ []) × (counts ≡ stream_counts b)
AreOptionsRefused source wanted b other =
    HasSignals wanted (frames_of b) × IsWeekRefused source wanted (frames_of b) other
