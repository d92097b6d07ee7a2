-- Leap seconds: GPS time minus UTC.
use Rattle.std.specs.Prelude.{ℕ, ◌+◌, ◌*◌, nat_le, count_by, List, [], ◌∷◌}
use Rattle.gnss_obs.specs.Dates.{civil_of}
use Rattle.gnss_obs.specs.declared.civil.Civil.{Civil}

-- the months since year 0
abbrev pub month_number : (year month : ℕ) → ℕ
month_number year month = 12 * year + month

-- the months at whose start GPS time minus UTC has grown by one second
abbrev pub leap_months : List ℕ
leap_months =
    month_number 1981 7 ∷ month_number 1982 7 ∷ month_number 1983 7 ∷ month_number 1985 7 ∷ month_number 1988 1
    ∷ month_number 1990 1 ∷ month_number 1991 1 ∷ month_number 1992 7 ∷ month_number 1993 7 ∷ month_number 1994 7
    ∷ month_number 1996 1 ∷ month_number 1997 7 ∷ month_number 1999 1 ∷ month_number 2006 1 ∷ month_number 2009 1
    ∷ month_number 2012 7 ∷ month_number 2015 7 ∷ month_number 2017 1 ∷ []

-- the number of these months up to that of a date
abbrev pub leap_in : Civil → ℕ
leap_in date = count_by (λ m. nat_le m (month_number date.year date.month)) leap_months

-- GPS time minus UTC in seconds on the date of a time in milliseconds of GPS time, after its first minute
abbrev pub leap_at : ℕ → ℕ
leap_at t = leap_in (civil_of t)
