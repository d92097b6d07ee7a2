-- The walk from 1980 on reaches the date of the calendar.
use Rattle.gnss_obs.proofs.Names.{◌≡◌, ℕ, zero, suc, ◌+◌, ◌-◌, ◌*◌, ◌/◌, ◌%◌, ◌<◌, ◌≤◌, Bool, true, false, nat_lt, refl, arith, ℤ, pos, ◌+ℤ◌, ◌-ℤ◌, if◌then◌else◌, IsCivilDate, days_from_civil, day_count, days_in_year, Date, signed_arith, epoch_day_injective, Civil, weeks, YearMonthDay, month_on, year_on, month_length, year_length, date_of, civil_of, IsCivil, IsCivilOf, clock_of, week, common_steps, ltb-true, ltb-false}
use Rattle.jiff_core.proofs.CalendarLemmas.{days_from_civil-day_count, day_count-next_year, day_count-next_month, day_count-day, day_count-last_of_year}

-- A date of the calendar, a number of days after 1 January of the year -10000.
record IsOn (d : YearMonthDay) (count : ℕ) : Type 0 where
  pub valid : IsCivilDate (pos d.year) d.month d.day
  pub here : day_count (pos d.year) d.month d.day ≡ count

here_in : (y m days : ℕ) {count : ℕ} → y ≤ 9999 → 1 ≤ m → m ≤ 12 → day_count (pos y) m 1 + days ≡ count → days < month_length y m
    → IsOn (record { year = y; month = m; day = days + 1 }) count
here_in y m days year low high e lt = grind (arith, common_steps, signed_arith, day_count-day)

-- December has 31 days
last_month : (y m days count : ℕ) → m ≡ 12 → day_count (pos y) m 1 + days ≡ count
    → count < day_count (pos y) 1 1 + days_in_year (pos y) → days < month_length y m
last_month y m days count twelve e bound = grind (arith, day_count-day, day_count-last_of_year (pos y))

-- The date is in the months of the year that are left, the first of which is k + 1.
month_on_is : (months y k days : ℕ) {count : ℕ} → y ≤ 9999 → k + months ≡ 11 → day_count (pos y) (k + 1) 1 + days ≡ count
    → count < day_count (pos y) 1 1 + days_in_year (pos y) → IsOn (month_on months y (k + 1) days) count
month_on_is zero y k days {count} year whole e bound =
    here_in y (k + 1) days year (omega arith) (omega (arith, whole)) e (last_month y (k + 1) days count (omega (arith, whole)) e bound)
month_on_is (suc months) y k days {count} year whole e bound =
    by (nat_lt days (month_length y (k + 1))) refl
    (λ le. month_on_is months y (k + 1) (days - month_length y (k + 1)) year (omega (arith, whole))
    (omega (arith, e, le, day_count-next_month (pos y) (k + 1) (omega arith))) bound)
  where
    by : (b : Bool) → nat_lt days (month_length y (k + 1)) ≡ b → (month_length y (k + 1) ≤ days → IsOn (month_on months y (k + 1 + 1) (days - month_length y (k + 1))) count)
        → IsOn (if b then record { year = y; month = k + 1; day = days + 1 } else month_on months y (k + 1 + 1) (days - month_length y (k + 1))) count
    by true test later = here_in y (k + 1) days year (omega arith) (omega (arith, whole)) e (ltb-true days (month_length y (k + 1)) test)
    by false test later = later (ltb-false days (month_length y (k + 1)) test)

year_long : (y : ℕ) → 365 ≤ year_length y
year_long y = grind arith

next_year : (y : ℕ) → day_count (pos (y + 1)) 1 1 ≡ day_count (pos y) 1 1 + year_length y
next_year y = day_count-next_year (pos y) (pos (y + 1)) (omega (arith, signed_arith)) (omega (arith, signed_arith))

year_on_is : (years y days count : ℕ) → y + years ≤ 9999 → days < 365 * (years + 1) → day_count (pos y) 1 1 + days ≡ count → IsOn (year_on years y days) count
year_on_is zero y days count year lt e = month_on_is 11 y 0 days (omega (arith, year)) refl e (omega (arith, e, lt, year_long y))
year_on_is (suc years) y days count year lt e =
    by (nat_lt days (year_length y)) refl
    (λ le. year_on_is years (y + 1) (days - year_length y) count (omega (arith, year)) (omega (arith, lt, le, year_long y))
    (omega (arith, e, le, next_year y)))
  where
    by : (b : Bool) → nat_lt days (year_length y) ≡ b → (year_length y ≤ days → IsOn (year_on years (y + 1) (days - year_length y)) count)
        → IsOn (if b then month_on 11 y 1 days else year_on years (y + 1) (days - year_length y)) count
    by true test later =
        let lt : days < year_length y = ltb-true days (year_length y) test in
        month_on_is 11 y 0 days (omega (arith, year)) refl e (omega (arith, e, lt))
    by false test later = later (ltb-false days (year_length y) test)

abbrev date : (y : ℤ) (m d : ℕ) → IsCivilDate y m d → Date
date y m d v = record { year = y; month = m; day = d; year_in = v.0; month_in = v.1; day_in = v.2 }

-- The date a number of days after 1980-01-06.
pub date_of_is : (days : ℕ) → days < 700_000
    → IsCivilDate (pos (date_of days).year) (date_of days).month (date_of days).day
    × (days_from_civil (pos (date_of days).year) (date_of days).month (date_of days).day -ℤ days_from_civil (pos 1980) 1 6 ≡ pos days)
date_of_is days lt =
    let on = year_on_is 1920 1980 (days + 5) _ (omega arith) (omega (arith, lt)) refl in
    let d = date_of days in (
      on.valid,
      since_first (days_from_civil (pos d.year) d.month d.day) (days_from_civil (pos 1980) 1 6) (day_count (pos 1980) 1 1) days
          (counted d) (counted (record { year = 1980; month = 1; day = 6 })) on.here (day_count-day (pos 1980) 1 1 6 (omega arith) (omega arith)),
    )
  where
    counted : (d : YearMonthDay) → days_from_civil (pos d.year) d.month d.day +ℤ pos 4_371_953 ≡ pos (day_count (pos d.year) d.month d.day)
    counted d = omega (arith, signed_arith, days_from_civil-day_count (pos d.year) d.month d.day)

    since_first : (z w : ℤ) {here : ℕ} (january : ℕ) {sixth : ℕ} (days : ℕ) → z +ℤ pos 4_371_953 ≡ pos here → w +ℤ pos 4_371_953 ≡ pos sixth
        → here ≡ january + (days + 5) → january + 6 ≡ sixth + 1 → z -ℤ w ≡ pos days
    since_first z w january days a b e f = omega (arith, signed_arith, a, b, e, f)

pub same_number : (a b : ℕ) → pos a ≡ pos b → a ≡ b
same_number a b e = omega (arith, signed_arith, e)

pub hours : (c : ℕ) → c < 86_400_000 → c / 3_600_000 < 24
hours c h = omega (arith, h)

pub same_civil : (c d : Civil) → c.year ≡ d.year → c.month ≡ d.month → c.day ≡ d.day → c.hour ≡ d.hour → c.minute ≡ d.minute → c.millisecond ≡ d.millisecond → c ≡ d
same_civil c d year month day hour minute millisecond = rw (year, month, day, hour, minute, millisecond)

-- The date and time of day of the calendar are those of the walk.
pub walk_is : (t : ℕ) (c : Civil) → t < weeks * week → IsCivilOf t c → c ≡ civil_of t
walk_is t c lt is =
    let there = date_of_is (t / 86_400_000) (omega (arith, lt)) in
    let same = epoch_day_injective (date (pos c.year) c.month c.day is.valid.date) (date (pos (date_of (t / 86_400_000)).year) (date_of (t / 86_400_000)).month (date_of (t / 86_400_000)).day there.0)
    (same_days _ _ _ _ is.days there.1) in
    let clock = parts_of_day c (t % 86_400_000) is.valid is.clock in
    same_civil c (civil_of t) (same_number _ _ same.0) same.1 same.2 clock.0 clock.1 clock.2
  where
    same_days : (a b first : ℤ) (n : ℕ) → a -ℤ first ≡ pos n → b -ℤ first ≡ pos n → a ≡ b
    same_days a b first n e f = omega (arith, signed_arith, e, f)

    parts_of_day : (c : Civil) (clock : ℕ) → IsCivil c → clock_of c ≡ clock
        → (c.hour ≡ clock / 3_600_000) × (c.minute ≡ clock / 60_000 % 60) × (c.millisecond ≡ clock % 60_000)
    parts_of_day c clock valid e = omega (arith, e, valid.minute, valid.millisecond)
