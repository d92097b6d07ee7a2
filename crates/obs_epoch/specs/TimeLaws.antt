-- The times of GLONASS in GPS time, and the next time with a time of week.
use Rattle.std.specs.Prelude.{◌≡◌, ℕ, ◌+◌, ◌*◌, ◌%◌, ◌<◌}
use Rattle.gnss_system.specs.declared.system.System.TheVariants.{Glonass}
use Rattle.rtcm_msg.specs.Msm.{time_of_week, week}
use Rattle.obs_epoch.specs.Heard.{tow_of}
use Rattle.obs_epoch.specs.Times.{ahead}

-- The time of week in GPS time is below a week, and 3 h more is the time of the week in GLONASS time and the leap
-- seconds, but for whole weeks.
abbrev pub IsGlonassTime : Type 0
IsGlonassTime = (leap time : ℕ) → (tow_of Glonass leap time < week)
    × ((tow_of Glonass leap time + 10_800_000) % week ≡ (time_of_week Glonass time + 1000 * leap) % week)

-- As many milliseconds after time t, less than a week, is the next time with this time of week.
abbrev pub IsNextTime : Type 0
IsNextTime = (t tow : ℕ) → tow < week → (ahead t tow < week) × ((t + ahead t tow) % week ≡ tow)
