-- Times of MSMs that are counted along a stream as a conversion counts them, but from week 0: each is from the greatest
-- time so far up to half a week after it, or it is before that time. MSMs of GLONASS, whose times of week depend on the
-- leap seconds, don't count.
use Rattle.std.specs.Prelude.{ℕ, ◌+◌, ◌-◌, ◌||◌, not, nat_lt, if◌then◌else◌, List, filter_map, fold, length, take}
use Rattle.std.specs.Prelude.{Option, Some, None, is_some, option_and_then}
use Rattle.std.specs.List.{before_first}
use Rattle.gnss_obs.specs.Weeks.{week}
use Rattle.gnss_system.specs.declared.system.System.TheVariants.{Glonass}
use Rattle.gnss_system.specs.Systems.{is_system}
use Rattle.gnss_system.specs.SystemValues.{tabulate}
use Rattle.rtcm_msg.specs.declared.number.Forms.TheVariants.{All}
use Rattle.rtcm_msg.specs.declared.number.MsmSet.{MsmSet}
use Rattle.rtcm_scan.specs.Frames.{Framed}
use Rattle.obs_epoch.specs.Times.{ahead, is_past}
use Rattle.rtcm_inspect.specs.Inspected.{inspected_in}
use Rattle.obs_epoch.specs.NearWeek.{half_week}
use Rattle.rtcm_inspect.specs.WeekLaws.{tow_of}

-- ---- the greatest time

-- the MSMs that count: those of every form, and of every system but GLONASS
abbrev pub counted_set : MsmSet
counted_set = record { systems = tabulate (λ s. not (is_system s Glonass)); forms = All }

-- the time of week of a frame's MSM of a set and of the wanted station, without leap seconds; if none is given, of any
abbrev pub tow_in : MsmSet → Option ℕ → Framed → Option ℕ
tow_in set wanted f = option_and_then (tow_of wanted) (inspected_in 0 set f.message)

-- those of the MSMs that count, in order
abbrev pub counted_tows : Option ℕ → List Framed → List ℕ
counted_tows wanted fs = filter_map (tow_in counted_set wanted) fs

-- the greatest time after one more time of week: one more than half a week ahead, or after the last week, changes nothing
abbrev pub with_tow : Option ℕ → ℕ → Option ℕ
with_tow None tow = Some tow
with_tow (Some t) tow =
    if nat_lt half_week (ahead t tow) || is_past (t + ahead t tow) then Some t else Some (t + ahead t tow)

abbrev pub greatest_of : List ℕ → Option ℕ
greatest_of tows = fold with_tow None tows

-- the greatest time of these frames
abbrev pub greatest_in : Option ℕ → List Framed → Option ℕ
greatest_in wanted fs = greatest_of (counted_tows wanted fs)

-- ---- the time of the first MSM of a set

-- the number of counted MSMs before it
abbrev pub counted_before : MsmSet → Option ℕ → List Framed → ℕ
counted_before set wanted fs =
    length (counted_tows wanted (before_first (λ f. is_some (tow_in set wanted f)) fs))

-- the greatest time at the next one that counts, which is itself unless it is of GLONASS; without a next one, of all
abbrev pub greatest_at_first : MsmSet → Option ℕ → List Framed → Option ℕ
greatest_at_first set wanted fs = greatest_of (take (counted_before set wanted fs + 1) (counted_tows wanted fs))

-- the time with this time of week that is nearest to time t, of two the later one; 0 if it is before week 0
abbrev pub time_near : (t tow : ℕ) → ℕ
time_near t tow = if nat_lt half_week (ahead t tow) then (t + ahead t tow) - week else t + ahead t tow
