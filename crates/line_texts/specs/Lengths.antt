-- Lengths in metres, read from text in units of 0.0001 m, and intervals and tolerances in seconds, in milliseconds.
use Rattle.std.specs.Prelude.{ℕ, ℤ, pos, neg_ℤ, nat_le, nat_lt, ◌+◌, ◌-◌, ◌*◌, ◌^◌, ◌%◌, ◌==◌, ◌&&◌, Bool, List, []}
use Rattle.std.specs.Prelude.{◌∷◌, take, drop, length, Option, Some, None, option_map, option_and_then, position}
use Rattle.std.specs.Prelude.{if◌then◌else◌}
use Rattle.std.specs.List.{list_all}
use Rattle.gnss_obs.specs.GatheredEpochs.{coordinate_bound}
use Rattle.gnss_obs.specs.Weeks.{day}
use Rattle.rinex_columns.specs.Read.{digits_in}

abbrev pub is_digit : ℕ → Bool
is_digit b = nat_le 48 b && nat_le b 57

-- the number of a text that has only digits
abbrev pub only_digits_in : List ℕ → Option ℕ
only_digits_in text = if list_all is_digit text then Some (digits_in text) else None

-- the number of one to `most` digits
abbrev pub number_of : ℕ → List ℕ → Option ℕ
number_of most text = if nat_le 1 (length text) && nat_le (length text) most then only_digits_in text else None

-- the texts before and after the first separator, if there is one
abbrev pub cut : ℕ → List ℕ → Option (List ℕ × List ℕ)
cut separator text = option_map (λ i. (take i text, drop (i + 1) text)) (position (λ b. b == separator) text)

-- one to `most` decimals, in units of the last
abbrev pub decimals_of : ℕ → List ℕ → Option ℕ
decimals_of most text = option_map (λ n. n * 10 ^ (most - length text)) (number_of most text)

-- one to eight digits, and up to `most` decimals after a point (0x2E), if there is one
abbrev pub fixed_by : ℕ → List ℕ → Option (List ℕ × List ℕ) → Option ℕ
fixed_by most text None = option_map (λ n. n * 10 ^ most) (number_of 8 text)
fixed_by most text (Some p) =
    option_and_then (λ n. option_map (λ d. n * 10 ^ most + d) (decimals_of most p.1)) (number_of 8 p.0)

abbrev pub fixed_point : ℕ → List ℕ → Option ℕ
fixed_point most text = fixed_by most text (cut 0x2E text)

-- a length below a bound
abbrev pub length_below : ℕ → List ℕ → Option ℕ
length_below bound text = option_and_then (λ n. if nat_lt n bound then Some n else None) (fixed_point 4 text)

-- the greatest interval: a day
abbrev pub longest_interval : ℕ
longest_interval = 86400000

-- an interval of at most a day, but not 0
abbrev pub interval_of : List ℕ → Option ℕ
interval_of text =
    option_and_then (λ n. if nat_lt 0 n && nat_le n longest_interval then Some n else None) (fixed_point 3 text)

-- an interval of epochs: at least 0.1 s, and a divisor of a day
abbrev pub epoch_interval_of : List ℕ → Option ℕ
epoch_interval_of text =
    option_and_then (λ n. if nat_le 100 n && (day % n == 0) then Some n else None) (interval_of text)

-- a tolerance: at most half a second, and at most half of the interval if there is one
abbrev pub is_tolerance : Option ℕ → ℕ → Bool
is_tolerance None n = nat_le n 500
is_tolerance (Some interval) n = nat_le n 500 && nat_le (2 * n) interval

abbrev pub tolerance_of : Option ℕ → List ℕ → Option ℕ
tolerance_of interval text =
    option_and_then (λ n. if is_tolerance interval n then Some n else None) (fixed_point 3 text)

-- the bytes after a first one, if the text begins with it
abbrev pub after_byte : ℕ → List ℕ → Option (List ℕ)
after_byte c [] = None
after_byte c (x ∷ xs) = if x == c then Some xs else None

-- a length that fits 38 bits, after a minus sign (0x2D) if there is one
abbrev pub coordinate_by : List ℕ → Option (List ℕ) → Option ℤ
coordinate_by text None = option_map pos (length_below coordinate_bound text)
coordinate_by text (Some size) = option_map (λ n. neg_ℤ (pos n)) (length_below (coordinate_bound + 1) size)

abbrev pub coordinate_of : List ℕ → Option ℤ
coordinate_of text = coordinate_by text (after_byte 0x2D text)

-- X, Y and Z, separated by commas (0x2C)
abbrev pub position_of : List ℕ → Option (ℤ × ℤ × ℤ)
position_of text =
    option_and_then (λ p. option_and_then (λ q.
    option_and_then (λ x. option_and_then (λ y. option_map (λ z. (x, y, z)) (coordinate_of q.1)) (coordinate_of q.0))
    (coordinate_of p.0))
    (cut 0x2C p.1)) (cut 0x2C text)
