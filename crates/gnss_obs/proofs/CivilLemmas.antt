-- Dates and times of day in the calendar of the library.
use Rattle.gnss_obs.proofs.Names.{◌≡◌, ◌<◌, ◌≤◌, ◌+◌, ◌*◌, ◌/◌, ◌%◌, ◌∙◌, ℕ, ℤ, pos, ◌+ℤ◌, ◌-ℤ◌, ◌*ℤ◌, neg_ℤ, ◌≤ℤ◌, refl, arith, nat_abs, to_z, of_z, to_z-of_z, FitsSigned, w8, w16, w32, w64, ap, ap₂, T, Fits, true, false, Result, IsOk, IfOk, Option, IfSome, IfNone, int_div, int_lt, non_neg, w128, Date, days_from_civil, IsDate, epoch_day, IsYmd, civil_nanos, signed_arith, valid_date, epoch_day_range, IsCivil, IsCivilOf, clock_of, Civil, common_steps}
use Rattle.jiff_core.specs.declared.civil.time.Time.{Time}
use Rattle.jiff_core.specs.declared.civil.datetime.DateTime.{DateTime}
use Rattle.jiff_core.specs.Time.{time_nanos, IsHms, IsTime}
use Rattle.gnss_obs.proofs.Days.{first_day, year_from}
use Rattle.std.specs.Result.{result_ok}

abbrev pub day_nanos : ℕ
day_nanos = 86_400_000_000_000

-- ---- the first time

pub begins : (b : DateTime) → IsYmd (pos 1980) (pos 1) (pos 6) b.date → IsHms (pos 0) (pos 0) (pos 0) (pos 0) b.time → civil_nanos b ≡ pos 3657 *ℤ pos day_nanos
unfolding civil_nanos
begins b date time = grind (arith, common_steps, first_day)

-- ---- days and nanoseconds

days_by : (z : ℤ) (n t : ℕ) → n < day_nanos → z *ℤ pos day_nanos +ℤ pos n ≡ pos 3657 *ℤ pos day_nanos +ℤ pos t *ℤ pos 1_000_000
    → (z -ℤ pos 3657 ≡ pos (t / 86_400_000)) × (n ≡ t % 86_400_000 * 1_000_000)
days_by z n t less e = (omega (arith, signed_arith, less, e), omega (arith, signed_arith, less, e))

time_below : (t : Time) → time_nanos t < day_nanos
time_below t = omega (arith, t.hour_in, t.minute_in, t.second_in, t.subsec_in)

pub parts_of : (at : DateTime) (t : ℕ) → civil_nanos at ≡ pos 3657 *ℤ pos day_nanos +ℤ pos t *ℤ pos 1_000_000
    → (epoch_day at.date -ℤ pos 3657 ≡ pos (t / 86_400_000)) × (time_nanos at.time ≡ t % 86_400_000 * 1_000_000)
unfolding civil_nanos
parts_of at t e = days_by (epoch_day at.date) (time_nanos at.time) t (time_below at.time) e

-- From the first time on, the year is one that fits when cast to a signed number and back.
pub year_in : (at : DateTime) (t : ℕ) (z : ℤ) → civil_nanos at ≡ pos 3657 *ℤ pos day_nanos +ℤ pos t *ℤ pos 1_000_000
    → z ≡ at.date.year → (pos 1980 ≤ℤ z) × (z ≤ℤ pos 9999)
year_in at t z e is = let parts = parts_of at t e in rw is (year_from at.date (omega (arith, signed_arith, parts.0)), at.date.year_in.1)

-- ---- the parts of a time

-- A small number, cast to a signed number and back.
pub back : (z : ℤ) (n : ℕ) → z ≡ pos n → n < 128 → nat_abs (to_z w8 (of_z w8 z)) ≡ n
back z n e small = let fits : FitsSigned w8 (pos n) = omega (arith, signed_arith, small) in rw (e, to_z-of_z fits) refl

pub back_thousands : (z : ℤ) (n : ℕ) → z ≡ pos n → n < 1000 → nat_abs (to_z w16 (of_z w16 z)) ≡ n
back_thousands z n e small = let fits : FitsSigned w16 (pos n) = omega (arith, signed_arith, small) in rw (e, to_z-of_z fits) refl

clock_is : (h m s f r : ℕ) → ((h * 3600 + m * 60 + s) * 1_000_000_000 + f) ≡ r * 1_000_000 → h * 3_600_000 + m * 60_000 + (s * 1_000 + f / 1_000_000) ≡ r
clock_is h m s f r e = omega (arith, e)

-- The year, the month and the day of a date.
pub record IsDateOf (date : Date) (y m d : ℕ) : Type 0 where
  pub year : pos y ≡ date.year
  pub month : m ≡ date.month
  pub day : d ≡ date.day

pub made_of : (at : DateTime) {t year month day hour minute second milli : ℕ} → civil_nanos at ≡ pos 3657 *ℤ pos day_nanos +ℤ pos t *ℤ pos 1_000_000
    → IsDateOf at.date year month day → hour ≡ at.time.hour → minute ≡ at.time.minute → second ≡ at.time.second
    → milli ≡ at.time.subsec_nanosecond / 1_000_000 → IsCivilOf t (record { year = year; month = month; day = day; hour = hour; minute = minute; millisecond = second * 1_000 + milli })
made_of at {t} {year} {month} {day} {hour} {minute} {second} e is h i s f = grind (arith, parts_of, valid_date, clock_is, first_day, parts_of at t e)

pub day_below : (d : Date) → d.day < 128
day_below d = grind (arith, common_steps)

-- ---- the time of these parts

-- The milliseconds of a number of days and a time of day.
pub since_of : (w since z : ℤ) (clock : ℕ) → w ≡ (z *ℤ pos day_nanos +ℤ pos (clock * 1_000_000)) -ℤ pos 3657 *ℤ pos day_nanos → since ≡ int_div w (pos 1_000_000)
    → since ≡ (z -ℤ pos 3657) *ℤ pos 86_400_000 +ℤ pos clock
since_of w since z clock e is = omega (arith, signed_arith, e, is)

pub is_of : (c : Civil) (t : ℕ) (since : ℤ) → IsCivil c → since ≡ (days_from_civil (pos c.year) c.month c.day -ℤ pos 3657) *ℤ pos 86_400_000 +ℤ pos (clock_of c) → since ≡ pos t → IsCivilOf t c
is_of c t since valid e is = grind (arith, common_steps, signed_arith, first_day)

pub only_one : (c : Civil) (t : ℕ) (since : ℤ) → since ≡ (days_from_civil (pos c.year) c.month c.day -ℤ pos 3657) *ℤ pos 86_400_000 +ℤ pos (clock_of c) → IsCivilOf t c → since ≡ pos t
only_one c t since e is = grind (arith, common_steps, first_day, signed_arith)

-- ---- numbers of milliseconds

-- The milliseconds from the first time to a date and time of day of the calendar.
pub since_range : (at : DateTime) (w since : ℤ) → w ≡ civil_nanos at -ℤ pos 3657 *ℤ pos day_nanos → since ≡ int_div w (pos 1_000_000)
    → (neg_ℤ (pos 1_000_000_000_000_000) ≤ℤ since) × (since ≤ℤ pos 1_000_000_000_000_000)
unfolding civil_nanos
since_range at w since e is = let days = epoch_day_range at.date in let time = time_below at.time in omega (arith, signed_arith, days.0, days.1, time, e, is)

-- A number of milliseconds that isn't negative.
pub record IsSince (z : ℤ) (n : ℕ) : Type 0 where
  pub is : z ≡ pos n
  pub back : to_z w128 (of_z w128 z) ≡ pos n
  pub small : n ≤ 1_000_000_000_000_000

pub not_below : (z : ℤ) → (neg_ℤ (pos 1_000_000_000_000_000) ≤ℤ z) × (z ≤ℤ pos 1_000_000_000_000_000) → int_lt (to_z w128 (of_z w128 z)) (pos 0) ≡ false → (n : ℕ) × IsSince z n
not_below z range h = grind (arith, signed_arith, back)

pub below_none : (z : ℤ) (t : ℕ) → z ≡ pos t → t < 60_480_000_000_000 → int_lt (to_z w128 (of_z w128 z)) (pos 0) ≡ true → ⊥
below_none z t e small h = grind (arith, common_steps)

pub cast_fits : (z : ℤ) (n : ℕ) → to_z w128 (of_z w128 z) ≡ pos n → n ≤ 1_000_000_000_000_000 → (T (non_neg (to_z w128 (of_z w128 z)))) × Fits w64 (nat_abs (to_z w128 (of_z w128 z)))
cast_fits z n e small = grind (arith, common_steps)

pub cast_is : (z : ℤ) (n : ℕ) → to_z w128 (of_z w128 z) ≡ pos n → nat_abs (to_z w128 (of_z w128 z)) ≡ n
cast_is z n e = rw e refl

pub small_time : (n : ℕ) → n < 60_480_000_000_000 → to_z w64 n ≡ pos n
small_time n h = grind arith

-- The date and time of day ms milliseconds after the first time.
pub moment_of : {v b s : ℤ} {ms t : ℕ} → v ≡ b +ℤ s → b ≡ pos 3657 *ℤ pos day_nanos → s ≡ to_z w64 ms *ℤ pos 1_000_000 → ms < 60_480_000_000_000 → ms ≡ t
    → v ≡ pos 3657 *ℤ pos day_nanos +ℤ pos t *ℤ pos 1_000_000
moment_of {ms} e first more small is = e ∙ ap₂ (λ x y. x +ℤ y) first (more ∙ ap (λ z. z *ℤ pos 1_000_000) (small_time ms small ∙ ap pos is))

-- ---- the parts of a date and time of day, passed to the calendar

-- The parts are within the bounds that are checked first.
pub record IsSmall (c : Civil) : Type 0 where
  pub year : c.year ≤ 9999
  pub month : c.month ≤ 12
  pub day : c.day ≤ 31
  pub hour : c.hour ≤ 23
  pub minute : c.minute ≤ 59
  pub millisecond : c.millisecond ≤ 59_999

pub is_at : (c : Civil) (at : DateTime) → IsSmall c → IsYmd (to_z w16 c.year) (to_z w8 c.month) (to_z w8 c.day) at.date
    → IsHms (to_z w8 c.hour) (to_z w8 c.minute) (to_z w8 (c.millisecond / 1_000)) (to_z w32 (of_z w32 (to_z w32 (c.millisecond % 1_000) *ℤ pos 1_000_000))) at.time
    → IsCivil c × (civil_nanos at ≡ days_from_civil (pos c.year) c.month c.day *ℤ pos day_nanos +ℤ pos (clock_of c * 1_000_000))
unfolding civil_nanos
is_at c at small date time = grind (arith, common_steps)

-- A valid date is accepted by the library.
pub is_taken : (c : Civil) → IsSmall c → IsCivil c → IsDate (to_z w16 c.year) (to_z w8 c.month) (to_z w8 c.day)
    × IsTime (to_z w8 c.hour) (to_z w8 c.minute) (to_z w8 (c.millisecond / 1_000)) (to_z w32 (of_z w32 (to_z w32 (c.millisecond % 1_000) *ℤ pos 1_000_000)))
is_taken c small valid = grind (arith, common_steps)

pub some_of : {A E : Type 0} {P Q : A → Type 0} {o : Option A} (r : Result A E) → o ≡ result_ok r → IfOk r P → ((x : A) → P x → Q x) → IfSome o Q
some_of r e h f = grind arith

pub none_of : {A E V : Type 0} (o : Option A) (r : Result A E) → o ≡ result_ok r → (V → IsOk r) → IfNone o (V → ⊥)
none_of o r e h = grind arith
