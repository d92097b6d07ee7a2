-- The week that `options` prints dates the first MSM of a conversion.
use Rattle.std.specs.Prelude.{◌≡◌, ◌↔◌, ℕ, ◌+◌, ◌*◌, ◌<◌, ◌≤◌, false, List, [], ◌∷◌, Option, Some, None, decimal}
use Rattle.std.specs.Prelude.{filter_map, option_and_then, if◌then◌else◌}
use Rattle.std.specs.Option.{option_or}
use Rattle.gnss_obs.specs.Weeks.{week, weeks}
use Rattle.gnss_system.specs.declared.system.System.TheVariants.{Glonass}
use Rattle.gnss_system.specs.SystemValues.{value_of}
use Rattle.rtcm_scan.specs.Frames.{Framed}
use Rattle.rtcm_msg.specs.declared.number.MsmSet.{MsmSet}
use Rattle.obs_epoch.specs.Heard.{heard_in, Heard}
use Rattle.obs_epoch.specs.declared.setup.GatherSetup.{GatherSetup}
use Rattle.obs_epoch.specs.Times.{Timed, timed}
use Rattle.line_texts.specs.Dates.{IsWeekOf}
use Rattle.obs_epoch.specs.NearWeek.{IsNearestWeek, IsWeekNear, half_week}
use Rattle.obs_epoch.specs.Starts.{first_week, is_no_week}
use Rattle.obs_epoch.specs.SignalCounts.{is_of_station}
use Rattle.rtcm_inspect.specs.Inspected.{inspected_in}

-- what the first message contains that has it, of messages that are read in this way
abbrev pub first_in : {A : Type 0} → (List ℕ → Option Heard) → (Heard → Option A) → List Framed → Option A
first_in read has [] = None
first_in read has (f ∷ fs) = option_or (option_and_then has (read f.message)) (first_in read has fs)

-- the time of week of an MSM of the wanted station; if none is given, of any station
abbrev pub tow_of : Option ℕ → Heard → Option ℕ
tow_of wanted m = if is_of_station wanted m then m.tow else None

-- the time of week of the first MSM of a set in these frames, by these leap seconds
abbrev pub first_tow : (leap : ℕ) → MsmSet → Option ℕ → List Framed → Option ℕ
first_tow leap set wanted fs = first_in (inspected_in leap set) (tow_of wanted) fs

-- from 1980-01-09 12:00 on exactly one week is the nearest
abbrev pub HasOneWeek : Type 0
HasOneWeek = (noon tow : ℕ) → half_week ≤ noon → tow < week
    → (w : ℕ) × IsNearestWeek noon tow w × ((v : ℕ) → IsNearestWeek noon tow v → v ≡ w)

-- the week that is printed is the nearest one, if one of the weeks from 0 to 99,999 is
abbrev pub IsNearestPrinted : Type 0
IsNearestPrinted = (noon tow w v : ℕ) → IsWeekNear noon tow w → v < weeks → IsNearestWeek noon tow v → w ≡ v

-- the number of a week that is printed is read as this week, and as no other
abbrev pub AreWeeksRead : Type 0
AreWeeksRead = (n m : ℕ) → n < weeks → (IsWeekOf (decimal n) m ↔ (m ≡ n))

-- the time of the first accepted message
abbrev pub first_time : List Timed → Option ℕ
first_time [] = None
first_time (x ∷ xs) = option_or x.time (first_time xs)

-- a conversion that decodes the MSMs of a set accepts the first one of the station, or of any, and its time is in the
-- week that the start gives for its time of week
abbrev pub IsDatedByStart : Type 0
IsDatedByStart = (set : MsmSet) (s : GatherSetup) (fs : List Framed) (tow : ℕ) → is_no_week s.start ≡ false → tow < week
    → first_tow s.leap_seconds set s.station fs ≡ Some tow
    → first_time (timed s (filter_map (λ f. heard_in s.plan.channels s.leap_seconds set f.message) fs)) ≡ Some (first_week s.start tow * week + tow)

-- the time of week of the first MSM of a set without GLONASS doesn't depend on the leap seconds
abbrev pub IsLeapFree : Type 0
IsLeapFree = (set : MsmSet) (a b : ℕ) (wanted : Option ℕ) (fs : List Framed) → value_of Glonass set.systems ≡ false
    → first_tow a set wanted fs ≡ first_tow b set wanted fs

-- that time of week is below a week
abbrev pub IsBelowWeek : Type 0
IsBelowWeek = (leap : ℕ) (set : MsmSet) (wanted : Option ℕ) (fs : List Framed) (tow : ℕ)
    → first_tow leap set wanted fs ≡ Some tow → tow < week
