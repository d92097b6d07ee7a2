-- A conversion with `--near`.
use Rattle.std.specs.Prelude.{◌≡◌, ◌+◌, ◌*◌, ℕ, List, Option, Some, None, codes}
use Rattle.clap.specs.Walk.{Row, first_of, one_of}
use Rattle.gnss_obs.specs.Weeks.{week}
use Rattle.rtcm_scan.specs.Frames.{Framed}
use Rattle.obs_epoch.specs.NearWeek.{IsWeekNear}
use Rattle.obs_epoch.specs.Times.{timed}
use Rattle.line_texts.specs.Dates.{IsHourOf}
use Rattle.line_texts.specs.LeapSeconds.{leap_at}
use Rattle.rtcm_inspect.specs.WeekLaws.{first_time, first_tow}
use Rattle.rtcm_convert.specs.Converted.{messages_of}
use Rattle.rtcm_convert.specs.SetupValues.{setup_value}
use Rattle.rtcm_convert.specs.declared.setup.Setup.{Setup}
use Rattle.rtcm_command.specs.SetupOptions.{IsSetupOf}

-- the first message that a conversion accepts has this time of week, if there is one, and is in the week in which it is
-- nearest to a time
abbrev pub StartsNear : (noon : ℕ) → (first : Option ℕ) → Setup → List Framed → Type 0
StartsNear noon first x fs = (tow : ℕ) → first ≡ Some tow
    → (n : ℕ) × IsWeekNear noon tow n
    × (first_time (timed x.gatherer (messages_of (setup_value x) fs)) ≡ Some (n * week + tow))

-- With `--near` this time is noon of the date, and that message is the first MSM which the conversion decodes, of the
-- station or of any. The leap seconds, if they aren't given, are those of the date.
abbrev pub IsDatedByNear : Type 0
IsDatedByNear = (options : List Row) (text : List ℕ) (fs : List Framed) (x : Setup) → IsSetupOf options x
    → first_of (codes "near") options ≡ Some text
    → (noon : ℕ) × IsHourOf 12 text noon
    × StartsNear noon (first_tow x.gatherer.leap_seconds (setup_value x).set x.gatherer.station fs) x fs
    × (one_of (codes "leap-seconds") options ≡ None → x.gatherer.leap_seconds ≡ leap_at noon)
