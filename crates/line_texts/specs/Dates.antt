-- GPS weeks, dates and times, read from text.
use Rattle.std.specs.Prelude.{◌≡◌, ◌⊎◌, ◌<◌, ◌*◌, ◌/◌, ◌==◌, nat_lt, ℕ, pos, List, length, Option, Some, None}
use Rattle.std.specs.Prelude.{option_map, option_and_then, if◌then◌else◌}
use Rattle.std.specs.Str.Parse.{IsNumeral, signed_digits_value, without_leading_sign}
use Rattle.gnss_obs.specs.Dates.{IsCivilOf}
use Rattle.gnss_obs.specs.Weeks.{week, weeks}
use Rattle.gnss_obs.specs.declared.civil.Civil.{Civil}
use Rattle.line_texts.specs.Lengths.{cut, number_of}

-- the number of exactly `width` digits
abbrev pub fixed_number : ℕ → List ℕ → Option ℕ
fixed_number width text = if length text == width then number_of width text else None

abbrev pub civil_with : (hour year month day : ℕ) → Civil
civil_with hour year month day = record {
  year = year;
  month = month;
  day = day;
  hour = hour;
  minute = 0;
  millisecond = 0;
}

-- this hour of the day in a text of the form yyyy-mm-dd, which may not be a date (0x2D is a hyphen)
abbrev pub civil_in : ℕ → List ℕ → Option Civil
civil_in hour text =
    option_and_then (λ p. option_and_then (λ q.
    option_and_then (λ y. option_and_then (λ m. option_map (λ d. civil_with hour y m d) (fixed_number 2 q.1))
    (fixed_number 2 q.0))
    (fixed_number 4 p.0))
    (cut 0x2D p.1)) (cut 0x2D text)

-- t is the time of this date and time of day, which are valid, from 1980-01-06 on and before week 100,000
abbrev pub IsTimeAt : Option Civil → ℕ → Type 0
IsTimeAt at t = (c : Civil) × (at ≡ Some c) × IsCivilOf t c × (t < weeks * week)

-- the text is a date by the calendar, and t is this hour of it
abbrev pub IsHourOf : ℕ → List ℕ → ℕ → Type 0
IsHourOf hour text t = IsTimeAt (civil_in hour text) t

-- a number of exactly two digits below a bound
abbrev pub two_below : ℕ → List ℕ → Option ℕ
two_below bound text = option_and_then (λ n. if nat_lt n bound then Some n else None) (fixed_number 2 text)

-- the hour, minute and second in a text of the form hh:mm:ss, 00:00:00 to 23:59:59 (0x3A is a colon)
abbrev pub clock_in : List ℕ → Option (ℕ × ℕ × ℕ)
clock_in text =
    option_and_then (λ p. option_and_then (λ q.
    option_and_then (λ h. option_and_then (λ m. option_map (λ s. (h, m, s)) (two_below 60 q.1)) (two_below 60 q.0))
    (two_below 24 p.0))
    (cut 0x3A p.1)) (cut 0x3A text)

-- this time of the day
abbrev pub at_clock : Civil → ℕ × ℕ × ℕ → Civil
at_clock c (hour, minute, second) = record c { hour = hour; minute = minute; millisecond = 1000 * second }

-- 0 h of a date, or the time of day that follows it and a T (0x54)
abbrev pub moment_by : List ℕ → Option (List ℕ × List ℕ) → Option Civil
moment_by text None = civil_in 0 text
moment_by text (Some p) = option_and_then (λ date. option_map (at_clock date) (clock_in p.1)) (civil_in 0 p.0)

-- the moment in a text of the form yyyy-mm-dd or yyyy-mm-ddThh:mm:ss, which may not be a date
abbrev pub moment_in : List ℕ → Option Civil
moment_in text = moment_by text (cut 0x54 text)

-- the text is a date by the calendar, or a time of it, and t is 0 h of the date or this time
abbrev pub IsTimeOf : List ℕ → ℕ → Type 0
IsTimeOf text t = IsTimeAt (moment_in text) t

-- the text is the number n of a week, with or without a sign
abbrev pub IsWeekNumber : List ℕ → ℕ → Type 0
IsWeekNumber text n =
    IsNumeral 10 (without_leading_sign text) × (signed_digits_value 10 text ≡ pos n) × (n < weeks)

-- the text is the number of week n, or a date in it
abbrev pub IsWeekOf : List ℕ → ℕ → Type 0
IsWeekOf text n = IsWeekNumber text n ⊎ ((t : ℕ) × IsHourOf 0 text t × (n ≡ t / week))
