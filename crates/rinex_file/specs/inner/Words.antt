-- The columns of a value as digits, and as a template to which these are added.
use Rattle.std.specs.Prelude.{⊤, ℕ, zero, suc, ◌+◌, ◌*◌, ◌/◌, ◌%◌, ◌<◌, ◌≤◌, ◌==◌, List, [], ◌∷◌, slice_index}
use Rattle.std.specs.Prelude.{Bool, true}
use Rattle.std.specs.List.{prefix_len}

-- the k + 1 digits of a number before other digits
abbrev pub digits_onto : ℕ → ℕ → List ℕ → List ℕ
digits_onto zero n ds = n ∷ ds
digits_onto (suc k) n ds = digits_onto k (n / 10) (n % 10 ∷ ds)

-- the number of leading zeros
abbrev pub leading : List ℕ → ℕ
leading [] = 0
leading (zero ∷ ds) = suc (leading ds)
leading (suc d ∷ ds) = 0

-- a column before the first digit and this number of others: the one next to the digit has the minus, if there is one
abbrev pub empty_column : ℕ → Bool → ℕ
empty_column zero true = 45
empty_column others negative = 32

-- each is less than n
abbrev pub AreBelow : ℕ → List ℕ → Type 0
AreBelow n [] = ⊤
AreBelow n (b ∷ bs) = (b < n) × AreBelow n bs

-- a field without its digits: of the first n columns this number is without a digit, then come those of the last digit, of
-- a point and of thousandths, LLI and SSI
abbrev pub template : Bool → ℕ → ℕ → List ℕ
template negative zero empty = 48 ∷ 46 ∷ 48 ∷ 48 ∷ 48 ∷ 32 ∷ 32 ∷ []
template negative (suc n) zero = 48 ∷ template negative n zero
template negative (suc n) (suc empty) = empty_column empty negative ∷ template negative n empty

-- the number of blanks before the first other column, and whether that is a minus
abbrev pub blanks : List ℕ → ℕ
blanks columns = prefix_len (λ b. b == 32) columns

abbrev pub has_minus : List ℕ → Bool
has_minus columns = slice_index columns (blanks columns) == 45

-- no number is more than the limit at its place
abbrev pub AreWithin : List ℕ → List ℕ → Type 0
AreWithin (l ∷ ls) (d ∷ ds) = (d ≤ l) × AreWithin ls ds
AreWithin ls ds = ⊤

-- the digits of a size in thousandths in their columns, a zero in that of the point, and two more columns
abbrev pub digit_columns : ℕ → ℕ → ℕ → List ℕ
digit_columns s y z =
    s / 1_000_000_000_000 ∷ s / 100_000_000_000 % 10 ∷ s / 10_000_000_000 % 10 ∷ s / 1_000_000_000 % 10
    ∷ s / 100_000_000 % 10 ∷ s / 10_000_000 % 10 ∷ s / 1_000_000 % 10 ∷ s / 100_000 % 10 ∷ s / 10_000 % 10
    ∷ s / 1000 % 10 ∷ 0 ∷ s / 100 % 10 ∷ s / 10 % 10 ∷ s % 10 ∷ y ∷ z ∷ []

-- the numbers of each two digits to this base
abbrev pub twos_of : ℕ → List ℕ → List ℕ
twos_of base (a ∷ b ∷ ds) = (a * base + b) ∷ twos_of base ds
twos_of base ds = []
