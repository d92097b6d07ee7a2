-- Ranges, phases, rates and strengths as exact fractions.
use Rattle.std.specs.Ordering.{int_eq}
use Rattle.std.specs.Prelude.{ℕ, ℤ, pos, negsuc, ◌+◌, ◌*◌, ◌^◌, ◌+ℤ◌, ◌*ℤ◌, ◌==◌, if◌then◌else◌, Option, Some, None}

-- A fine part of z units of size k; absent if it is the invalid value.
abbrev pub scaled : ℤ → ℕ → ℤ → Option ℤ
scaled invalid k z = if int_eq z invalid then None else Some (z *ℤ pos k)

-- The value of DF397 for an invalid rough range.
abbrev pub invalid_range : ℕ
invalid_range = 255

-- The rough range in units of 2^-31 ms plus a fine part; absent if either is invalid.
abbrev pub range_joined : ℕ → ℕ → Option ℤ → Option ℤ
range_joined whole fraction None = None
range_joined whole fraction (Some fine) =
    if whole == invalid_range then None else Some (pos (whole * 2 ^ 31 + fraction * 2 ^ 21) +ℤ fine)

-- The values of DF399 and of DF404 for an invalid rough and fine phase range rate.
abbrev pub invalid_rough_rate : ℤ
invalid_rough_rate = negsuc 8191

abbrev pub invalid_fine_rate : ℤ
invalid_fine_rate = negsuc 16383

-- A phase range rate in 0.0001 m/s; absent if its rough or fine part is invalid.
abbrev pub rate_joined : ℤ → ℤ → Option ℤ
rate_joined rough fine = if int_eq rough invalid_rough_rate then None
    else (if int_eq fine invalid_fine_rate then None else Some ((rough *ℤ pos 10000) +ℤ fine))

-- A carrier to noise ratio in 1/16 dB-Hz; absent if it is 0.
abbrev pub strength_of : ℕ → ℕ → Option ℕ
strength_of n k = if n == 0 then None else Some (n * k)
