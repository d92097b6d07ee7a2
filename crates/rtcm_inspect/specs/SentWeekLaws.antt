-- A conversion that starts in the week that an ephemeris says was counted as week 0 is in the week of the ephemeris.
use Rattle.std.specs.Prelude.{◌≡◌, ℕ, ◌+◌, ◌*◌, ◌/◌, ◌%◌, ◌<◌, ◌≤◌, List, [], filter_map, length, Option, Some, None}
use Rattle.std.specs.Prelude.{if◌then◌else◌}
use Rattle.gnss_obs.specs.Weeks.{week, weeks}
use Rattle.rtcm_msg.specs.declared.weeks.SentWeek.{SentWeek}
use Rattle.obs_epoch.specs.Heard.{Heard, is_own}
use Rattle.obs_epoch.specs.declared.setup.GatherSetup.{GatherSetup}
use Rattle.obs_epoch.specs.declared.week.Start.TheVariants.{Week}
use Rattle.obs_epoch.specs.Times.{greatest_time, timed}
use Rattle.rtcm_scan.specs.Frames.{Framed}
use Rattle.rtcm_msg.specs.declared.number.MsmSet.{MsmSet}
use Rattle.obs_epoch.specs.NearWeek.{half_week}
use Rattle.rtcm_inspect.specs.CountedTimes.{greatest_at_first, greatest_of, time_near}
use Rattle.rtcm_inspect.specs.SentWeeks.{rest_by, said_after, whole_by}

-- the times of week of the messages that a conversion dates, in order
abbrev pub own_tows : GatherSetup → List Heard → List ℕ
own_tows s ms = filter_map (λ m. if is_own s m then m.tow else None) ms

-- The greatest time of a conversion is the one that is counted from week 0, after the begin of the start week.
abbrev pub IsCountedFromStart : Type 0
IsCountedFromStart = (s : GatherSetup) (ms : List Heard) (w t : ℕ) → s.start ≡ Week w
    → greatest_of (own_tows s ms) ≡ Some t → w * week + t < weeks * week
    → greatest_time (timed s ms) ≡ Some (w * week + t)

-- If an ephemeris says that week d was counted as week 0, the greatest time of a conversion that starts in week d is in
-- the week of the ephemeris.
abbrev pub IsInSentWeek : Type 0
IsInSentWeek = (s : GatherSetup) (ms : List Heard) (d t : ℕ) (e : SentWeek) → s.start ≡ Week d
    → greatest_of (own_tows s ms) ≡ Some t → whole_by t e ≡ Some d → e.week < weeks
    → (u : ℕ) × (greatest_time (timed s ms) ≡ Some u) × (u / week ≡ e.week)

-- The week that was counted as week 0, and the weeks counted up to time t, are the week of the ephemeris, or congruent
-- to it modulo 1,024.
abbrev pub AreWeeksSaid : Type 0
AreWeeksSaid = (t d : ℕ) (e : SentWeek) → (whole_by t e ≡ Some d → d + t / week ≡ e.week)
    × (rest_by t e ≡ Some d → (d + t / week) % 1_024 ≡ e.week % 1_024)

-- The time near time t has this time of week, and is at most half a week after t, or less than half a week before it.
abbrev pub IsNearestTime : Type 0
IsNearestTime = (t tow : ℕ) → tow < week → half_week ≤ t
    → (time_near t tow % week ≡ tow) × (t < time_near t tow + half_week) × (time_near t tow ≤ t + half_week)

-- If an ephemeris of these frames says a week, whole or modulo 1,024, there is a greatest time at the first MSM.
abbrev pub HasGreatest : Type 0
HasGreatest = (says : ℕ → SentWeek → Option ℕ) (set : MsmSet) (wanted : Option ℕ) (fs : List Framed)
    → 0 < length (said_after says wanted [] fs) → (t : ℕ) × (greatest_at_first set wanted fs ≡ Some t)
