-- Lengths in units of 0.0001 m, written in metres.
use Rattle.std.specs.Prelude.{ℕ, ℤ, pos, negsuc, ◌+◌, ◌/◌, List, ◌++◌, codes, decimal}
use Rattle.line_texts.specs.Digits.{four_digits}

-- at least one digit, a point and four digits
abbrev pub size_text : ℕ → List ℕ
size_text n = decimal (n / 10000) ++ codes "." ++ four_digits n

-- the same with a minus sign if it is negative
abbrev pub metres : ℤ → List ℕ
metres (pos n) = size_text n
metres (negsuc n) = codes "-" ++ size_text (n + 1)
