-- The columns of a value: blanks, a sign, digits, a point and three digits.
use Rattle.rinex_file.proofs.Digits.Padded.{empty_columns, three_digits}
use Rattle.rinex_file.proofs.Rows.Sizes.{length-value}
use Rattle.rinex_file.proofs.Names.{length-right, arith, ◌≡◌, ◌∙◌, sym, ap, ap₂, refl, ℕ, zero, suc, ◌+◌, ◌-◌, ◌/◌, ◌%◌, ◌^◌, ◌<◌, ◌≤◌, List, [], ◌∷◌, ◌++◌, length, replicate, append_assoc, append-nil, length-append, decimal, ℤ, unsigned_abs, true, false, Bool, set, Some, is_negative, sign_text, set_at, ints, FitsColumns, padded, right, fixed, field}

-- ---- the size of a value

pub within_columns : (v : ℤ) → FitsColumns v → unsigned_abs v < 10 ^ 13
within_columns v h = grind (arith, ints)

-- ---- the field of a value

pub blank_columns : (n : ℕ) → empty_columns false n ≡ replicate n 32
blank_columns zero = refl
blank_columns (suc n) = ap₂ (λ a l. a ∷ l) (grind arith) (blank_columns n)

pub last_minus : (n : ℕ) → empty_columns true (suc n) ≡ replicate n 32 ++ 45 ∷ []
last_minus zero = refl
last_minus (suc n) = ap (λ l. 32 ∷ l) (last_minus n)

pub empty_columns_are : (b : Bool) (n : ℕ) → (b ≡ true → 1 ≤ n) → empty_columns b n ≡ replicate (n - length (sign_text b)) 32 ++ sign_text b
empty_columns_are b n some = grind (arith, blank_columns, append-nil, last_minus)

pub field_text : (v : ℤ) (start lost strength : ℕ) → start + length (decimal (unsigned_abs v / 1000)) ≡ 10 → (is_negative v ≡ true → 1 ≤ start)
    → field (Some v) lost strength ≡ empty_columns (is_negative v) start ++ (decimal (unsigned_abs v / 1000) ++ (46 ∷ padded 3 (unsigned_abs v % 1000) ++ lost ∷ strength ∷ []))
unfolding field
field_text v start lost strength columns some = grind (arith, length-append, three_digits, append_assoc, empty_columns_are)

-- ---- a field of which the two last columns are written after the others

ends_set : (xs : List ℕ) (a b : ℕ) → length xs ≡ 14 → set (set (xs ++ 32 ∷ 32 ∷ []) 14 a) 15 b ≡ xs ++ a ∷ b ∷ []
ends_set xs a b l =
    let size : length (xs ++ a ∷ []) ≡ 15 = length-append xs (a ∷ []) ∙ omega (arith, l) in
    ap (λ t. set t 15 b) (set_at xs 32 (32 ∷ []) a 14 l ∙ sym (append_assoc xs (a ∷ []) (32 ∷ []))) ∙ set_at (xs ++ a ∷ []) 32 [] b 15 size ∙ append_assoc xs (a ∷ []) (b ∷ [])

pub with_ends : (v : ℤ) (lost strength : ℕ) → FitsColumns v → set (set (field (Some v) 32 32) 14 lost) 15 strength ≡ field (Some v) lost strength
unfolding field
with_ends v lost strength fits = ends_set (right 14 (fixed 3 v)) lost strength (length-right 14 (fixed 3 v) (length-value v fits))

pub with_end : (v : ℤ) (strength : ℕ) → FitsColumns v → set (field (Some v) 32 32) 15 strength ≡ field (Some v) 32 strength
unfolding field
with_end v strength fits =
    let xs : List ℕ = right 14 (fixed 3 v) in
    let size : length (xs ++ 32 ∷ []) ≡ 15 = length-append xs (32 ∷ []) ∙ ap (λ n. n + 1) (length-right 14 (fixed 3 v) (length-value v fits)) in
    ap (λ t. set t 15 strength) (sym (append_assoc xs (32 ∷ []) (32 ∷ []))) ∙ set_at (xs ++ 32 ∷ []) 32 [] strength 15 size ∙ append_assoc xs (32 ∷ []) (strength ∷ [])
