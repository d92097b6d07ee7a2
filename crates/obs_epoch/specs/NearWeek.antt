-- The week of a time of week near a date. Times are in milliseconds.
use Rattle.std.specs.Prelude.{◌≡◌, ◌⊎◌, ℕ, ◌+◌, ◌-◌, ◌*◌, ◌/◌, ◌<◌, ◌≤◌, min}
use Rattle.gnss_obs.specs.Weeks.{week, weeks}

abbrev pub half_week : ℕ
half_week = week / 2

-- In week w this time of week is less than half a week from noon, or half a week before it.
abbrev pub IsNearestWeek : (noon tow w : ℕ) → Type 0
IsNearestWeek noon tow w = (noon ≤ w * week + tow + half_week) × (w * week + tow + half_week < noon + week)

-- The nearest week of the weeks from 0 to 99,999: the first if the time in it is later, the last if it is earlier.
abbrev pub IsWeekNear : (noon tow w : ℕ) → Type 0
IsWeekNear noon tow w =
    ((w < weeks) × IsNearestWeek noon tow w) ⊎ ((w ≡ 0) × (noon + week ≤ tow + half_week))
    ⊎ ((w ≡ weeks - 1) × (w * week + tow + half_week < noon))

-- Its number: of the weeks in which this time of week isn't more than half a week before noon, the first.
abbrev pub week_near : (noon tow : ℕ) → ℕ
week_near noon tow = min ((noon + half_week - 1 - tow) / week) (weeks - 1)
