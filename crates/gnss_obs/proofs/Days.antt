-- The days since 1980-01-06.
use Rattle.gnss_obs.proofs.Names.{◌≡◌, refl, arith, rules, ℤ, pos, ◌≤ℤ◌, Fits, w16, to_z, of_z, to_z-of_z, nat_abs, T, non_neg, Date, IsInRange, IsYear, days_in_month, day_count, days_from_civil, days_of_years, days_of_months, epoch_day, signed_arith, cases_date, epoch_day-lt}

pub first_day : days_from_civil (pos 1980) 1 6 ≡ pos 3657
unfolding days_from_civil day_count days_of_years days_of_months
first_day = refl

first_year : IsYear (pos 1980)
first_year = search rules

first_month : IsInRange 1 12 1
first_month = search rules

first_date : IsInRange 1 (days_in_month (pos 1980) 1) 6
first_date = search rules

abbrev first : Date
first = record { year = pos 1980; month = 1; day = 6; year_in = first_year; month_in = first_month; day_in = first_date }

-- From that day on, the year is 1980 or later.
pub year_from : (d : Date) → pos 3657 ≤ℤ epoch_day d → pos 1980 ≤ℤ d.year
year_from d h = let c = cases_date d first in let e = epoch_day-lt d first in grind (arith, signed_arith, first_day, c, e)

-- The year of such a date, cast to a signed number and back.
pub plain_year : (z : ℤ) → pos 1980 ≤ℤ z → z ≤ℤ pos 9999 → pos (nat_abs (to_z w16 (of_z w16 z))) ≡ z
plain_year z low high = grind (arith, signed_arith, to_z-of_z)

pub casts : (z : ℤ) → pos 1980 ≤ℤ z → z ≤ℤ pos 9999 → (T (non_neg (to_z w16 (of_z w16 z)))) × Fits w16 (nat_abs (to_z w16 (of_z w16 z)))
casts z low high = grind (arith, signed_arith, to_z-of_z)
