-- The week that the ephemerides of a stream contain (messages 1019, 1042, 1045 and 1046).
use Rattle.std.specs.Prelude.{◌≡◌, ℕ, ◌+◌, ◌-◌, ◌*◌, ◌/◌, ◌%◌, ◌==◌, ◌<◌, ◌≤◌, ◌&&◌, Bool, true, false, not, min, nat_le, nat_lt}
use Rattle.std.specs.Prelude.{if◌then◌else◌, List, [], ◌∷◌, ◌++◌, option_to_list, Option, Some, None, option_and_then, unwrap_or}
use Rattle.std.specs.List.{list_any}
use Rattle.gnss_obs.specs.Weeks.{week, weeks}
use Rattle.rtcm_msg.specs.Weeks.{sent_week}
use Rattle.rtcm_msg.specs.declared.weeks.SentWeek.{SentWeek}
use Rattle.rtcm_scan.specs.Frames.{Framed}
use Rattle.line_texts.specs.LeapSeconds.{leap_at}
use Rattle.rtcm_inspect.specs.CountedTimes.{greatest_at_first, greatest_in, time_near}
use Rattle.rtcm_inspect.specs.Signals.{set_had}
use Rattle.rtcm_inspect.specs.WeekLaws.{first_tow}
use Rattle.rtcm_inspect.specs.declared.printed_week.FirstMsm.{FirstMsm}

-- ---- what an ephemeris says of the week

-- the most milliseconds between the clock reference time of an ephemeris and the time at which it is sent
abbrev pub six_hours : ℕ
six_hours = 21_600_000

-- The clock reference time is one of a week, and at most six hours from time t in the same week.
abbrev pub is_recent : (t : ℕ) → SentWeek → Bool
is_recent t e =
    nat_lt (1_000 * e.clock) week && nat_le (1_000 * e.clock) (t % week + six_hours)
    && nat_le (t % week) (1_000 * e.clock + six_hours)

-- The GPS week that was counted as week 0, if time t is in the week of the ephemeris. It says nothing if its week is
-- modulo 1,024, or if that week would be before the first one.
abbrev pub whole_by : (t : ℕ) → SentWeek → Option ℕ
whole_by t e = if e.is_whole && is_recent t e && nat_le (t / week) e.week then Some (e.week - t / week) else None

-- the same modulo 1,024, of an ephemeris whose week is
abbrev pub rest_by : (t : ℕ) → SentWeek → Option ℕ
rest_by t e =
    if not e.is_whole && is_recent t e then Some ((e.week % 1_024 + (1_024 - t / week % 1_024)) % 1_024) else None

-- what the message of a frame says by the greatest time of the frames before it, if they have one
abbrev pub said_at : (ℕ → SentWeek → Option ℕ) → Option ℕ → (earlier : List Framed) → Framed → Option ℕ
said_at says wanted earlier f =
    option_and_then (λ t. option_and_then (says t) (sent_week f.message)) (greatest_in wanted earlier)

-- what each of these frames says, after earlier ones
abbrev pub said_after : (ℕ → SentWeek → Option ℕ) → Option ℕ → (earlier fs : List Framed) → List ℕ
said_after says wanted earlier [] = []
said_after says wanted earlier (f ∷ fs) =
    option_to_list (said_at says wanted earlier f) ++ said_after says wanted (earlier ++ f ∷ []) fs

-- what the ephemerides of these frames say, in order: those with whole weeks, and the others
abbrev pub whole_in : Option ℕ → List Framed → List ℕ
whole_in wanted fs = said_after whole_by wanted [] fs

abbrev pub rests_in : Option ℕ → List Framed → List ℕ
rests_in wanted fs = said_after rest_by wanted [] fs

-- ---- the first MSM that is converted with the printed options

-- the greatest time at it, and its time of week by these leap seconds; a stream with a recent ephemeris and a signal has
-- both
abbrev pub first_msm : (leap : ℕ) → Option ℕ → List Framed → FirstMsm
first_msm leap wanted fs = record {
  greatest = unwrap_or (greatest_at_first (set_had wanted fs) wanted fs) 0;
  tow = unwrap_or (first_tow leap (set_had wanted fs) wanted fs) 0;
}

-- its time if GPS week d was counted as week 0
abbrev pub time_in : (d : ℕ) → FirstMsm → ℕ
time_in d x = time_near (d * week + x.greatest) x.tow

-- a time, or the last one that a conversion accepts
abbrev pub within_weeks : ℕ → ℕ
within_weeks t = min (weeks * week - 1) t

-- the leap seconds of its date, if its time is that by these leap seconds
abbrev pub leap_with : Option ℕ → List Framed → (d leap : ℕ) → ℕ
leap_with wanted fs d leap = leap_at (within_weeks (time_in d (first_msm leap wanted fs)))

-- the leap seconds of its date, which by its time without leap seconds may be the day before
abbrev pub leap_by : Option ℕ → List Framed → (d : ℕ) → ℕ
leap_by wanted fs d = leap_with wanted fs d (leap_with wanted fs d 0)

-- its week by these leap seconds
abbrev pub week_by : Option ℕ → List Framed → (d : ℕ) → ℕ
week_by wanted fs d = within_weeks (time_in d (first_msm (leap_by wanted fs d) wanted fs)) / week

-- ---- a week near a date

-- its week modulo 1,024, by that of the week that was counted as week 0
abbrev pub rest_of : FirstMsm → (d : ℕ) → ℕ
rest_of x d = time_in (d + 1_024) x / week % 1_024

-- The first MSM is in week w, if GPS week d was counted as week 0: exactly, or modulo 1,024.
abbrev pub is_in : (is_whole : Bool) → FirstMsm → (w d : ℕ) → Bool
is_in true x w d = time_in d x / week == w
is_in false x w d = rest_of x d == w % 1_024

-- No ephemeris says week w: none of those with whole weeks; without one, none of the others, of which there are some.
abbrev pub is_denied : FirstMsm → (whole rests : List ℕ) → (w : ℕ) → Bool
is_denied x (d ∷ ds) rests w = not (list_any (is_in true x w) (d ∷ ds))
is_denied x [] (d ∷ ds) w = not (list_any (is_in false x w) (d ∷ ds))
is_denied x [] [] w = false

abbrev pub distance : ℕ → ℕ → ℕ
distance a b = (a - b) + (b - a)

-- Of the weeks with this rest modulo 1,024 it is the one in which the time of week is nearest to noon; of two the earlier.
abbrev pub IsNearestRest : (noon tow rest w : ℕ) → Type 0
IsNearestRest noon tow rest w =
    (w < weeks) × (w % 1_024 ≡ rest)
    × ((v : ℕ) → v < weeks → v % 1_024 ≡ rest
    → (distance noon (w * week + tow) ≤ distance noon (v * week + tow))
    × (distance noon (w * week + tow) ≡ distance noon (v * week + tow) → w ≤ v))

-- the time of the first MSM by the first ephemeris
abbrev pub IsOtherTime : (noon : ℕ) → FirstMsm → (whole rests : List ℕ) → (t : ℕ) → Type 0
IsOtherTime noon x (d ∷ ds) rests t = t ≡ within_weeks (time_in d x)
IsOtherTime noon x [] (d ∷ ds) t =
    (w : ℕ) × IsNearestRest noon x.tow (rest_of x d) w × (t ≡ within_weeks (w * week + x.tow))
IsOtherTime noon x [] [] t = ⊥
