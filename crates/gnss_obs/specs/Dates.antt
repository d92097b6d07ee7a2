-- GPS time as a civil date and time of day: its definition by the calendar, and a walk from 1980 on that computes it.
use Rattle.std.specs.Prelude.{◌≡◌, ℕ, zero, suc, ◌+◌, ◌-◌, ◌*◌, ◌/◌, ◌%◌, ◌<◌, ◌==◌, ◌&&◌, ◌||◌, Bool, not, nat_lt, ℤ}
use Rattle.std.specs.Prelude.{pos, ◌-ℤ◌, ◌*ℤ◌, ◌+ℤ◌, if◌then◌else◌}
use Rattle.jiff_core.specs.Calendar.{IsCivilDate, days_from_civil}
use Rattle.gnss_obs.specs.declared.civil.Civil.{Civil}
use Rattle.gnss_obs.specs.Weeks.{day as day_length}

-- ---- by the calendar

-- A valid date of the calendar with a valid time of day.
pub record IsCivil (c : Civil) : Type 0 where
  pub date : IsCivilDate (pos c.year) c.month c.day
  pub hour : c.hour < 24
  pub minute : c.minute < 60
  pub millisecond : c.millisecond < 60_000

-- The milliseconds since midnight.
abbrev pub clock_of : Civil → ℕ
clock_of c = c.hour * 3_600_000 + c.minute * 60_000 + c.millisecond

-- The nanoseconds since the calendar's day 0.
abbrev pub nanoseconds_of : Civil → ℤ
nanoseconds_of c = days_from_civil (pos c.year) c.month c.day *ℤ pos 86_400_000_000_000 +ℤ pos (clock_of c * 1_000_000)

-- The date and time of day t milliseconds after 1980-01-06 00:00:00: days by the calendar, the rest by the clock.
pub record IsCivilOf (t : ℕ) (c : Civil) : Type 0 where
  pub valid : IsCivil c
  pub days : days_from_civil (pos c.year) c.month c.day -ℤ days_from_civil (pos 1980) 1 6 ≡ pos (t / day_length)
  pub clock : clock_of c ≡ t % day_length

-- ---- by a walk: year by year from 1980 on, then month by month

abbrev pub is_leap : ℕ → Bool
is_leap y = (y % 4 == 0) && (not (y % 100 == 0) || (y % 400 == 0))

abbrev pub year_length : ℕ → ℕ
year_length y = if is_leap y then 366 else 365

abbrev pub month_length : ℕ → ℕ → ℕ
month_length y m =
    if m == 2 then (if is_leap y then 29 else 28)
    else (if (m == 4) || (m == 6) || (m == 9) || (m == 11) then 30 else 31)

pub record YearMonthDay : Type 0 where
  pub year : ℕ
  pub month : ℕ
  pub day : ℕ

-- The date a number of days after the first day of a month, with at most `months` more months.
abbrev pub month_on : ℕ → ℕ → ℕ → ℕ → YearMonthDay
month_on zero y m days = record { year = y; month = m; day = days + 1 }
month_on (suc months) y m days =
    if nat_lt days (month_length y m) then record { year = y; month = m; day = days + 1 }
    else month_on months y (m + 1) (days - month_length y m)

-- The date a number of days after the first day of a year, with at most `years` more years.
abbrev pub year_on : ℕ → ℕ → ℕ → YearMonthDay
year_on zero y days = month_on 11 y 1 days
year_on (suc years) y days =
    if nat_lt days (year_length y) then month_on 11 y 1 days else year_on years (y + 1) (days - year_length y)

-- The date a number of days after 1980-01-06.
abbrev pub date_of : ℕ → YearMonthDay
date_of days = year_on 1920 1980 (days + 5)

abbrev pub civil_on : YearMonthDay → ℕ → Civil
civil_on d clock = record {
  year = d.year;
  month = d.month;
  day = d.day;
  hour = clock / 3_600_000;
  minute = clock / 60_000 % 60;
  millisecond = clock % 60_000;
}

-- The date and time of day t milliseconds after 1980-01-06 00:00:00, before week 100,000.
abbrev pub civil_of : ℕ → Civil
civil_of t = civil_on (date_of (t / day_length)) (t % day_length)
