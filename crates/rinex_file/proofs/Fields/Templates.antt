-- Digits in lanes, added to the columns of a field.
use Rattle.rinex_file.proofs.Fields.Columns.{field_text, within_columns}
use Rattle.rinex_file.proofs.Digits.Padded.{IsSpaced, empty_columns, spaced, spaced_is, padded_digits, three_digits}
use Rattle.rinex_file.proofs.Names.{◌<ℤ◌, ◌≤ℤ◌, pos, false, not_negative, zip2, ints, arith, ◌≡◌, ◌∙◌, sym, ap, ap₂, refl, subst, ℕ, ℤ, zero, suc, ◌+◌, ◌-◌, ◌/◌, ◌%◌, ◌^◌, ◌<◌, ◌≤◌, List, [], ◌∷◌, ◌++◌, map, length, decimal, append_assoc, append-nil, length-append, inl, inr, true, unsigned_abs, Bool, Some, is_negative, cases_lt, decimal_digit, decimal_step, first_decimal, length-decimal-le, padded, FitsColumns, field, AreBelow, digit_columns, digits_onto, leading, template}

abbrev pub added : ℕ → ℕ → ℕ
added a b = (a + b) % 2 ^ 8

-- ---- digits and columns

all_added : (b : Bool) (ds xs : List ℕ) → AreBelow 10 ds → zip2 added (ds ++ xs) (template b (length ds) 0) ≡ map (λ x. 48 + x) ds ++ zip2 added xs (template b 0 0)
all_added b [] xs h = refl
all_added b (d ∷ ds) xs h = let one : (d + 48) % 2 ^ 8 ≡ 48 + d = omega (arith, h.0) in ap₂ (λ a l. a ∷ l) one (all_added b ds xs h.1)

digits_added : (b : Bool) (ds xs : List ℕ) → AreBelow 10 ds → zip2 added (ds ++ xs) (template b (length ds) (leading ds)) ≡ spaced b ds ++ zip2 added xs (template b 0 0)
digits_added b [] xs h = refl
digits_added b (zero ∷ ds) xs h = ap₂ (λ x l. x ∷ l) (grind arith) (digits_added b ds xs h.1)
digits_added b (suc d ∷ ds) xs h = all_added b (suc d ∷ ds) xs h

pub leading-le : (ds : List ℕ) → leading ds ≤ length ds
leading-le (zero ∷ ds) = let more = leading-le ds in omega (arith, more)
leading-le ds = omega arith

pub length-template : (b : Bool) (n z : ℕ) → length (template b n z) ≡ n + 7
length-template b zero z = refl
length-template b (suc n) zero = let more = length-template b n 0 in omega (arith, more)
length-template b (suc n) (suc z) = let more = length-template b n z in omega (arith, more)

-- ---- a whole part

nine_spaced : (b : Bool) (n : ℕ) → 0 < n → n < 10 ^ 9 → IsSpaced b (digits_onto 8 n []) (9 - length (decimal n)) (decimal n)
nine_spaced b n some small =
    spaced_is b (digits_onto 8 n []) (9 - length (decimal n)) (decimal n) (sym (padded_digits 8 n [] small (omega (arith, small))) ∙ append-nil (padded 9 n)) (first_decimal n some (omega (arith, small)))

-- what is before the first digit, for the leading zeros of all digits but the last
abbrev IsWhole : Bool → List ℕ → ℕ → Type 0
IsWhole b ds w = (leading ds + length (decimal w) ≡ 10) × (spaced b ds ++ (48 + w % 10) ∷ [] ≡ empty_columns b (leading ds) ++ decimal w)

more_digits : (b : Bool) (w : ℕ) → 10 ≤ w → w < 10 ^ 10 → IsWhole b (digits_onto 8 (w / 10) []) w
more_digits b w big small =
    let n : ℕ = w / 10 in
    let (columns, zeros) = nine_spaced b n (omega (arith, big)) (omega (arith, small)) in
    let d = decimal_step w big (omega (arith, small)) in
    let size : length (decimal w) ≡ length (decimal n) + 1 = ap length d ∙ length-append (decimal n) ((48 + w % 10) ∷ []) in (
      omega (arith, zeros, length-decimal-le 9 n (omega arith) (omega (arith, small)) (omega (arith, small)), size),
      ap (λ t. t ++ (48 + w % 10) ∷ []) columns ∙ append_assoc (empty_columns b (9 - length (decimal n))) (decimal n) ((48 + w % 10) ∷ []) ∙ ap₂ (λ k t. empty_columns b k ++ t) (sym zeros) (sym d),
    )

whole : (b : Bool) (w : ℕ) → w < 10 ^ 10 → IsWhole b (digits_onto 8 (w / 10) []) w
whole b w small =
    elim (cases_lt w 10) [
      | inl less ↦ let none : w / 10 ≡ 0 = omega (arith, less) in subst (λ (n : ℕ). IsWhole b (digits_onto 8 n []) w) (sym none) (grind (arith, decimal_digit))
      | inr big ↦ more_digits b w big small
    ]

-- ---- a size in thousandths

-- its first nine digits, and the other columns
abbrev pub front : ℕ → List ℕ
front s = s / 1_000_000_000_000 ∷ s / 100_000_000_000 % 10 ∷ s / 10_000_000_000 % 10 ∷ s / 1_000_000_000 % 10 ∷ s / 100_000_000 % 10 ∷ s / 10_000_000 % 10 ∷ s / 1_000_000 % 10 ∷ s / 100_000 % 10 ∷ s / 10_000 % 10 ∷ []

abbrev back : ℕ → ℕ → ℕ → List ℕ
back s y z = s / 1000 % 10 ∷ 0 ∷ s / 100 % 10 ∷ s / 10 % 10 ∷ s % 10 ∷ y ∷ z ∷ []

front_is : (s : ℕ) → digits_onto 8 (s / 1000 / 10) [] ≡ front s
front_is s = grind arith

-- what follows the columns without a digit
abbrev pub rest_with : ℕ → ℕ → ℕ → List ℕ
rest_with s lost strength = decimal (s / 1000) ++ (46 ∷ padded 3 (s % 1000) ++ lost ∷ strength ∷ [])

last_columns : (b : Bool) (s y z : ℕ) → zip2 added (back s y z) (template b 0 0) ≡ (48 + s / 1000 % 10) ∷ (46 ∷ padded 3 (s % 1000) ++ added y 32 ∷ added z 32 ∷ [])
last_columns b s y z = grind (arith, three_digits)

front_whole : (b : Bool) (s : ℕ) → s < 10 ^ 13 → (leading (front s) + length (decimal (s / 1000)) ≡ 10) × (spaced b (front s) ++ (48 + s / 1000 % 10) ∷ [] ≡ empty_columns b (leading (front s)) ++ decimal (s / 1000))
front_whole b s h = subst (λ (ds : List ℕ). IsWhole b ds (s / 1000)) (front_is s) (whole b (s / 1000) (omega (arith, h)))

pub start_is : (s : ℕ) → s < 10 ^ 13 → leading (front s) + length (decimal (s / 1000)) ≡ 10
start_is s h = (front_whole false s h).0

-- the first digit other than zero has this number of others before it
abbrev IsFirst : ℕ → List ℕ → Type 0
IsFirst k [] = ⊥
IsFirst zero (d ∷ ds) = 0 < d
IsFirst (suc k) (d ∷ ds) = (d ≡ 0) × IsFirst k ds

leading_at : (k : ℕ) (ds : List ℕ) → IsFirst k ds → leading ds ≡ k
leading_at k [] h = absurd h
leading_at zero (zero ∷ ds) h = absurd (omega (arith, h))
leading_at zero (suc d ∷ ds) h = refl
leading_at (suc k) (zero ∷ ds) h = ap suc (leading_at k ds h.1)
leading_at (suc k) (suc d ∷ ds) h = absurd (omega (arith, h.0))

-- the leading zeros of a value with eight whole digits
pub eight_whole : (v : ℤ) → pos 10_000_000_000 ≤ℤ v → v <ℤ pos 100_000_000_000 → (is_negative v ≡ false) × (leading (front (unsigned_abs v)) ≡ 2)
eight_whole v least below = grind (arith, not_negative, leading_at, ints)

-- with any numbers in the two last lanes
columns_with : (b : Bool) (s y z : ℕ) → s < 10 ^ 13 → zip2 added (digit_columns s y z) (template b 9 (leading (front s))) ≡ empty_columns b (leading (front s)) ++ rest_with s (added y 32) (added z 32)
columns_with b s y z h =
    let t : List ℕ = 46 ∷ padded 3 (s % 1000) ++ added y 32 ∷ added z 32 ∷ [] in
    digits_added b (front s) (back s y z) (omega (arith, h))
    ∙ ap (λ l. spaced b (front s) ++ l) (last_columns b s y z) ∙ sym (append_assoc (spaced b (front s)) ((48 + s / 1000 % 10) ∷ []) t) ∙ ap (λ l. l ++ t) (front_whole b s h).1
    ∙ append_assoc (empty_columns b (leading (front s))) (decimal (s / 1000)) t

-- before the digits of a value is a column for its sign
pub sign_before : (v : ℤ) → FitsColumns v → is_negative v ≡ true → 1 ≤ leading (front (unsigned_abs v))
sign_before v fits negative = grind (arith, start_is, within_columns)

pub value_columns : (v : ℤ) (y z : ℕ) → FitsColumns v
    → zip2 added (digit_columns (unsigned_abs v) y z) (template (is_negative v) 9 (leading (front (unsigned_abs v)))) ≡ field (Some v) (added y 32) (added z 32)
value_columns v y z fits =
    let n = unsigned_abs v in
    let small = within_columns v fits in
    columns_with (is_negative v) n y z small ∙ sym (field_text v (leading (front n)) (added y 32) (added z 32) (start_is n small) (sign_before v fits))
