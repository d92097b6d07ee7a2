-- The week of the first observations.
use Rattle.std.specs.Prelude.{◌≡◌, ◌<◌, ℕ, Bool, false, not, nat_lt}
use Rattle.gnss_obs.specs.Weeks.{weeks}
use Rattle.obs_epoch.specs.NearWeek.{IsWeekNear, week_near}
pub use Rattle.obs_epoch.specs.declared.week.Start.{Start}
use Rattle.obs_epoch.specs.declared.week.Start.TheVariants.{Week, Near}

-- The week of the first observations, which have this time of week.
unfoldable pub first_week : Start → ℕ → ℕ
first_week (Week n) tow = n
first_week (Near noon) tow = week_near noon tow

-- It is given, and after the last week.
abbrev pub is_no_week : Start → Bool
is_no_week (Week n) = not (nat_lt n weeks)
is_no_week (Near noon) = false

-- ---- laws

-- The week is the given one, or the one in which the time of week is nearest to the time.
abbrev pub IsGivenWeek : Type 0
IsGivenWeek = (n tow : ℕ) → first_week (Week n) tow ≡ n

abbrev pub IsNearestFirst : Type 0
IsNearestFirst = (noon tow : ℕ) → IsWeekNear noon tow (first_week (Near noon) tow)

-- It is one from 0 to 99,999, if a given one is.
abbrev pub IsWeekOfWeeks : Type 0
IsWeekOfWeeks = (start : Start) (tow : ℕ) → is_no_week start ≡ false → first_week start tow < weeks
