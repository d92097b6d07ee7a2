-- Digits of a number as columns, with blanks or zeros before them.
use Rattle.rinex_file.proofs.Names.{arith, ◌≡◌, ◌∙◌, sym, ap, ap₂, refl, ℕ, zero, suc, ◌+◌, ◌-◌, ◌*◌, ◌/◌, ◌%◌, ◌^◌, ◌<◌, List, [], ◌∷◌, ◌++◌, map, length, drop, replicate, get_or, append_assoc, append-nil, length-append, inl, inr, Bool, cases_lt, pow-suc, decimal_digit, decimal_step, replicate_next, padded, digits_onto, empty_column, leading}

-- digits as columns, without leading zeros
abbrev pub spaced : Bool → List ℕ → List ℕ
spaced negative [] = []
spaced negative (zero ∷ ds) = empty_column (leading ds) negative ∷ spaced negative ds
spaced negative (suc d ∷ ds) = map (λ x. 48 + x) (suc d ∷ ds)

-- the columns before the first digit
abbrev pub empty_columns : Bool → ℕ → List ℕ
empty_columns negative zero = []
empty_columns negative (suc n) = empty_column n negative ∷ empty_columns negative n

-- digits that are those of a number after zeros
abbrev pub IsSpaced : Bool → List ℕ → ℕ → List ℕ → Type 0
IsSpaced b ds z text = (spaced b ds ≡ empty_columns b z ++ text) × (leading ds ≡ z)

pub spaced_is : (b : Bool) (ds : List ℕ) (z : ℕ) (text : List ℕ) → map (λ x. 48 + x) ds ≡ replicate z 48 ++ text → 48 < get_or text 0 0 → IsSpaced b ds z text
spaced_is b [] zero text e h = absurd (let none : get_or text 0 0 ≡ 0 = ap (λ l. get_or l 0 0) (sym e) in omega (arith, h, none))
spaced_is b [] (suc z) text e h = cc
spaced_is b (zero ∷ ds) zero text e h = absurd (let low : get_or text 0 0 ≡ 48 = ap (λ l. get_or l 0 0) (sym e) in omega (arith, h, low))
spaced_is b (suc d ∷ ds) zero text e h = (e, refl)
spaced_is b (zero ∷ ds) (suc z) text e h = grind (arith, (spaced_is b ds z text (ap (drop 1) e) h))
spaced_is b (suc d ∷ ds) (suc z) text e h = absurd (let low : 48 + suc d ≡ 48 = ap (λ l. get_or l 0 0) e in omega (arith, low))

-- ---- a number with leading zeros, digit by digit

padded_one : (k n : ℕ) → n < 10 → padded (suc k) n ≡ replicate k 48 ++ (48 + n) ∷ []
padded_one k n small = grind (arith, decimal_digit)

padded_more : (k n : ℕ) → n < 2 ^ 64 → padded (suc (suc k)) n ≡ padded (suc k) (n / 10) ++ (48 + n % 10) ∷ []
padded_more k n fits =
    elim (cases_lt n 10) [
      | inl small ↦
          let next : suc k ≡ k + 1 = omega arith in
          padded_one (suc k) n small ∙ ap (λ t. t ++ (48 + n) ∷ []) (ap (λ j. replicate {A = ℕ} j 48) next ∙ replicate_next k 48 ∙ sym (padded_one k 0 (omega arith)))
          ∙ sym (ap₂ (λ t x. padded (suc k) t ++ (48 + x) ∷ []) (omega (arith, small)) (omega (arith, small)))
      | inr big ↦ grind (arith, decimal_step, length-append, append_assoc)
    ]

tenth : (k n : ℕ) → n < 10 ^ suc k → n / 10 < 10 ^ k
tenth k n h = let p : 10 ^ suc k ≡ 10 ^ k * 10 = pow-suc 10 k in omega (arith, h, p)

pub padded_digits : (k n : ℕ) (ds : List ℕ) → n < 10 ^ suc k → n < 2 ^ 64 → padded (suc k) n ++ map (λ x. 48 + x) ds ≡ map (λ x. 48 + x) (digits_onto k n ds)
padded_digits zero n ds small fits = ap (λ d. (replicate (1 - length d) 48 ++ d) ++ map (λ x. 48 + x) ds) (decimal_digit n (omega (arith, small)))
padded_digits (suc k) n ds small fits = grind (arith, padded_more, append_assoc, tenth, (padded_digits k (n / 10) (n % 10 ∷ ds) (tenth (suc k) n small) (omega (arith, fits))))

-- the columns of three digits
pub three_digits : (p : ℕ) → p < 1000 → padded 3 p ≡ (48 + p / 100) ∷ (48 + p / 10 % 10) ∷ (48 + p % 10) ∷ []
three_digits p small =
    let e : p / 10 / 10 ≡ p / 100 = omega arith in
    sym (append-nil (padded 3 p)) ∙ padded_digits 2 p [] small (omega (arith, small)) ∙ ap (λ x. (48 + x) ∷ (48 + p / 10 % 10) ∷ (48 + p % 10) ∷ []) e

pub two_digits : (p : ℕ) → p < 100 → padded 2 p ≡ (48 + p / 10) ∷ (48 + p % 10) ∷ []
two_digits p small = sym (append-nil (padded 2 p)) ∙ padded_digits 1 p [] small (omega (arith, small))
