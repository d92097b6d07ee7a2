-- The number of indexes among those below a bound, by the missing places.
use Rattle.rinex_inspect.proofs.Names.{All-push, All-weaker, is_among, number_among, sum_by-append, ◌≡◌, ◌∙◌, ◌+◌, ◌-◌, ◌<◌, ◌≤◌, ◌∷◌, ◌++◌, [], ap, arith, refl, subst, ℕ, List, Bool, cond, All, ◌==◌, ◌||◌, false, true, zero, suc, inl, inr, All-head, All-nil, All-tail, ◌≢◌, ◌⊎◌, list_any-append, common_steps}

abbrev one_if : Bool → ℕ
one_if b = cond b 1 0

-- one number is among these, or the last one is it
among_more : (xs : List ℕ) (j n : ℕ) → is_among (xs ++ j ∷ []) n ≡ is_among xs n || (j == n)
among_more xs j n = grind (arith, list_any-append)

number_next : (xs : List ℕ) (m : ℕ) → number_among xs (suc m) ≡ number_among xs m + one_if (is_among xs m)
number_next xs m = grind (arith, sum_by-append)

none_among : (m : ℕ) → number_among [] m ≡ 0
none_among zero = refl
none_among (suc m) = number_next [] m ∙ omega (arith, none_among m)

differs : (j m : ℕ) → (j == m) ≡ false → (b : Bool) → b || (j == m) ≡ b
differs j m e true = refl
differs j m e false = e

above : (j m : ℕ) → m < j → (j == m) ≡ false
above j m h = grind (arith, h)

-- a number that isn't below the bound doesn't count
number_kept : (xs : List ℕ) (j m : ℕ) → m ≤ j → number_among (xs ++ j ∷ []) m ≡ number_among xs m
number_kept xs j zero h = refl
number_kept xs j (suc m) h = grind (arith, common_steps, among_more, differs, above, number_next, number_kept xs j m (omega (arith, h)))

same_number : (j m : ℕ) → (j == m) ≡ true → j ≡ m
same_number j m e = grind (arith, e)

its_own : (j m : ℕ) (b : Bool) → (j == m) ≡ true → b || (j == m) ≡ true
its_own j m true e = refl
its_own j m false e = e

under : (j m : ℕ) → (j == m) ≡ false → j < suc m → j < m
under j m e h = grind (arith, e, h)

-- one that is below counts once
number_more : (xs : List ℕ) (j m : ℕ) → j < m → number_among (xs ++ j ∷ []) m + one_if (is_among xs j) ≡ number_among xs m + 1
number_more xs j zero h = absurd (omega (arith, h))
number_more xs j (suc m) h = by (j == m) refl (number_more xs j m) where
  by : (b : Bool) → (j == m) ≡ b → (j < m → number_among (xs ++ j ∷ []) m + one_if (is_among xs j) ≡ number_among xs m + 1)
      → number_among (xs ++ j ∷ []) (suc m) + one_if (is_among xs j) ≡ number_among xs (suc m) + 1
  by true e more =
      let same : j ≡ m = same_number j m e in
      let old : number_among (xs ++ j ∷ []) m ≡ number_among xs m = number_kept xs j m (omega (arith, same)) in
      let here : one_if (is_among (xs ++ j ∷ []) m) ≡ 1 = ap (λ (b : Bool). one_if b) (among_more xs j m ∙ its_own j m (is_among xs m) e) in
      let this : one_if (is_among xs j) ≡ one_if (is_among xs m) = ap (λ (n : ℕ). one_if (is_among xs n)) same in
      omega (arith, number_next (xs ++ j ∷ []) m, number_next xs m, old, here, this)
  by false e more =
      let less : j < m = under j m e h in
      let here : one_if (is_among (xs ++ j ∷ []) m) ≡ one_if (is_among xs m) = ap (λ (b : Bool). one_if b) (among_more xs j m ∙ differs j m e (is_among xs m)) in
      omega (arith, number_next (xs ++ j ∷ []) m, number_next xs m, more less, here)

-- ---- indexes below a place, to which all but some are among them

pub record Covered (xs : List ℕ) (place missing : ℕ) : Type 0 where
  pub under : All (λ i. i < place) xs
  pub last : place ≡ 0 ⊎ (is_among xs (place - 1) ≡ true)
  pub sum : (m : ℕ) → place ≤ m → number_among xs m + missing ≡ place

pub none_covered : Covered [] 0 0
none_covered = record { under = All-nil (λ i. i < 0); last = inl refl; sum = λ m h. omega (arith, none_among m) }

-- numbers below another one aren't it
not_among : (xs : List ℕ) (j : ℕ) → All (λ i. i < j) xs → is_among xs j ≡ false
not_among [] j h = refl
not_among (x ∷ xs) j h = grind (arith, All-head (λ i. i < j) x xs h, not_among xs j (All-tail (λ i. i < j) x xs h))

under_more : (xs : List ℕ) (p j : ℕ) → p ≤ j + 1 → All (λ i. i < p) xs → All (λ i. i < j + 1) (xs ++ j ∷ [])
under_more xs p j h all = All-push (λ i. i < j + 1) xs j (All-weaker (λ i. i < p) (λ i. i < j + 1) (λ x e. omega (arith, e, h)) xs all) (omega arith)

last_more : (xs : List ℕ) (j : ℕ) → is_among (xs ++ j ∷ []) ((j + 1) - 1) ≡ true
last_more xs j = grind (arith, among_more)

-- one index more, at the last place or after it
pub covered_more : {xs : List ℕ} {p k : ℕ} (j : ℕ) → Covered xs p k → p ≤ j + 1 → Covered (xs ++ j ∷ []) (j + 1) (k + (((j + 1) - p) - 1))
covered_more {xs} {p} {k} j c h = record {
  under = under_more xs p j h c.under;
  last = inr (last_more xs j);
  sum = λ m fits. by m fits (nat_cases p j);
} where
  there : (p ≡ j + 1) → is_among xs j ≡ true
  there same = of c.last where
    of : p ≡ 0 ⊎ (is_among xs (p - 1) ≡ true) → is_among xs j ≡ true
    of (inl none) = absurd (omega (arith, none, same))
    of (inr last) = let e : p - 1 ≡ j = omega (arith, same) in subst (λ (n : ℕ). is_among xs n ≡ true) e last

  nat_cases : (p j : ℕ) → (p ≡ j + 1) ⊎ (p ≢ j + 1)
  nat_cases p j = of (p == (j + 1)) refl where
    of : (b : Bool) → (p == (j + 1)) ≡ b → (p ≡ j + 1) ⊎ (p ≢ j + 1)
    of true e = inl (grind (arith, e))
    of false e = inr (λ s. grind (arith, e, s))

  by : (m : ℕ) → j + 1 ≤ m → (p ≡ j + 1) ⊎ (p ≢ j + 1) → number_among (xs ++ j ∷ []) m + (k + (((j + 1) - p) - 1)) ≡ j + 1
  by m fits (inl same) =
      let one : number_among (xs ++ j ∷ []) m + 1 ≡ number_among xs m + 1 = subst (λ (b : Bool). number_among (xs ++ j ∷ []) m + one_if b ≡ number_among xs m + 1) (there same) (number_more xs j m (omega (arith, fits))) in
      let all : number_among xs m + k ≡ p = c.sum m (omega (arith, same, fits)) in
      omega (arith, one, all, same)
  by m fits (inr other) =
      let all_under : All (λ i. i < j) xs = All-weaker (λ i. i < p) (λ i. i < j) (λ x e. omega (arith, e, h, other)) xs c.under in
      let one : number_among (xs ++ j ∷ []) m + 0 ≡ number_among xs m + 1 = subst (λ (b : Bool). number_among (xs ++ j ∷ []) m + one_if b ≡ number_among xs m + 1) (not_among xs j all_under) (number_more xs j m (omega (arith, fits))) in
      let all : number_among xs m + k ≡ p = c.sum m (omega (arith, h, fits)) in
      let less : p ≤ j = omega (arith, h, other) in
      omega (arith, one, all, less)
