-- Sums over the numbers below another one, and texts that are joined.
use Rattle.rinex_inspect.proofs.Names.{common_steps, ◌≡◌, ◌∙◌, ◌+◌, ◌*◌, ◌^◌, ◌<◌, ◌≤◌, ◌++◌, ◌∷◌, [], ℕ, Bool, zero, suc, List, cond, refl, ap, sym, arith, ◌-◌, add-one, append_assoc, append-nil, count_by, sum_by, flat_map-append, sum_by-append, below, texts_below, total, Tally, IsSmallTally, capped, plus}
use Rattle.rinex_inspect.proofs.TallyLemmas.{tally_is}

one_of : (f : ℕ → ℕ) (n : ℕ) → sum_by f (n ∷ []) ≡ f n
one_of f n = omega arith

pub sum_more : (f : ℕ → ℕ) (n : ℕ) → sum_by f (below (n + 1)) ≡ sum_by f (below n) + f n
sum_more f n = ap (λ (k : ℕ). sum_by f (below k)) (add-one n) ∙ sum_by-append f (below n) (n ∷ []) ∙ ap (λ (k : ℕ). sum_by f (below n) + k) (one_of f n)

pub count_more : (p : ℕ → Bool) (n : ℕ) {b : Bool} → p n ≡ b → count_by p (below (n + 1)) ≡ count_by p (below n) + cond b 1 0
count_more p n e = sum_more (λ (i : ℕ). cond (p i) 1 0) n ∙ ap (λ (b : Bool). count_by p (below n) + cond b 1 0) e

pub sum_suc : (f : ℕ → ℕ) (n : ℕ) → sum_by f (below (suc n)) ≡ sum_by f (below n) + f n
sum_suc f n = ap (λ (k : ℕ). sum_by f (below k)) (sym (add-one n)) ∙ sum_more f n

pub sum_bound : (f : ℕ → ℕ) (n bound : ℕ) → ((i : ℕ) → i < n → f i < bound) → sum_by f (below n) ≤ n * bound
sum_bound f zero bound each = omega arith
sum_bound f (suc n) bound each = grind (arith, common_steps, sum_suc, sum_bound f n bound (λ i fits. each i (omega (arith, fits))))

pub sum_add : (f g : ℕ → ℕ) (n : ℕ) → sum_by (λ i. f i + g i) (below n) ≡ sum_by f (below n) + sum_by g (below n)
sum_add f g zero = refl
sum_add f g (suc n) = omega (arith, sum_add f g n, sum_suc (λ (i : ℕ). f i + g i) n, sum_suc f n, sum_suc g n)

-- a sum of smaller numbers, and one of equal numbers
pub sum_mono : (f g : ℕ → ℕ) (n : ℕ) → ((i : ℕ) → i < n → f i ≤ g i) → sum_by f (below n) ≤ sum_by g (below n)
sum_mono f g zero less = omega arith
sum_mono f g (suc n) less = omega (arith, sum_mono f g n (λ i fits. less i (omega (arith, fits))), less n (omega arith), sum_suc f n, sum_suc g n)

pub sum_same : (f g : ℕ → ℕ) (n : ℕ) → ((i : ℕ) → i < n → f i ≡ g i) → sum_by f (below n) ≡ sum_by g (below n)
sum_same f g n same = omega (arith, sum_mono f g n (λ i fits. omega (arith, same i fits)), sum_mono g f n (λ i fits. omega (arith, same i fits)))

-- a part of a sum, and one of its numbers
sum_front : (f : ℕ → ℕ) (m n : ℕ) → m ≤ n → sum_by f (below m) ≤ sum_by f (below n)
sum_front f m n few = by (n - m) n (omega (arith, few)) where
  by : (d n : ℕ) → n ≡ m + d → sum_by f (below m) ≤ sum_by f (below n)
  by zero n e = let same : sum_by f (below n) ≡ sum_by f (below m) = ap (λ (k : ℕ). sum_by f (below k)) {x = n} {y = m} (omega (arith, e)) in omega (arith, same)
  by (suc d) n e =
      let more : sum_by f (below n) ≡ sum_by f (below ((m + d) + 1)) = ap (λ (k : ℕ). sum_by f (below k)) {x = n} {y = (m + d) + 1} (omega (arith, e)) in
      omega (arith, by d (m + d) refl, more, sum_more f (m + d))

one_of_sum : (f : ℕ → ℕ) (i n : ℕ) → i < n → f i ≤ sum_by f (below n)
one_of_sum f i n fits = omega (arith, sum_front f (i + 1) n (omega (arith, fits)), sum_more f i)

-- ---- tallies

sum_capped : (bits : ℕ) (f : ℕ → ℕ) (m n : ℕ) → m < n → sum_by f (below n) < 2 ^ bits → capped bits (sum_by f (below m) + f m) ≡ sum_by f (below (m + 1))
sum_capped bits f m n fits small = omega (arith, small, sum_front f (m + 1) n (omega (arith, fits)), sum_more f m)

-- the tally of one satellite more
pub total_more : (f : ℕ → Tally) (m n : ℕ) → m < n → IsSmallTally (total f n) → plus (total f m) (f m) ≡ total f (m + 1)
total_more f m n fits is = tally_is (sum_capped 32 _ m n fits is.c) (sum_capped 32 _ m n fits is.l) (sum_capped 32 _ m n fits is.d) (sum_capped 32 _ m n fits is.s) (sum_capped 32 _ m n fits is.lost) (sum_capped 32 _ m n fits is.half)
    (sum_capped 64 _ m n fits (omega (arith, is.strength)))

-- no tally is greater than the sum of all
pub one_small_of : (f : ℕ → Tally) (i n : ℕ) → i < n → IsSmallTally (total f n) → IsSmallTally (f i)
one_small_of f i n fits is = record {
  c = omega (arith, is.c, one_of_sum (λ (i : ℕ). (f i).c) i n fits);
  l = omega (arith, is.l, one_of_sum (λ (i : ℕ). (f i).l) i n fits);
  d = omega (arith, is.d, one_of_sum (λ (i : ℕ). (f i).d) i n fits);
  s = omega (arith, is.s, one_of_sum (λ (i : ℕ). (f i).s) i n fits);
  lost = omega (arith, is.lost, one_of_sum (λ (i : ℕ). (f i).lost) i n fits);
  half = omega (arith, is.half, one_of_sum (λ (i : ℕ). (f i).half) i n fits);
  strength = omega (arith, is.strength, one_of_sum (λ (i : ℕ). (f i).strength) i n fits);
}

-- ---- texts

pub texts_more : (f : ℕ → List ℕ) (n : ℕ) → texts_below f (n + 1) ≡ texts_below f n ++ f n
texts_more f n = ap (texts_below f) (add-one n) ∙ flat_map-append f (below n) (n ∷ []) ∙ ap (λ (l : List ℕ). texts_below f n ++ l) (append-nil (f n))

-- equal texts
pub texts_same : (f g : ℕ → List ℕ) (n : ℕ) → ((i : ℕ) → i < n → f i ≡ g i) → texts_below f n ≡ texts_below g n
texts_same f g zero same = refl
texts_same f g (suc n) same = grind (arith, common_steps, add-one, texts_more, texts_same f g n (λ i fits. same i (omega (arith, fits))))

-- the first texts
pub texts_front : (f : ℕ → List ℕ) (m n : ℕ) → m ≤ n → (more : List ℕ) × (texts_below f n ≡ texts_below f m ++ more)
texts_front f m n few = by (n - m) n (omega (arith, few)) where
  by : (d n : ℕ) → n ≡ m + d → (more : List ℕ) × (texts_below f n ≡ texts_below f m ++ more)
  by zero n e = ([], ap (texts_below f) {x = n} {y = m} (omega (arith, e)) ∙ sym (append-nil (texts_below f m)))
  by (suc d) n e =
      let (more, split) = by d (m + d) refl in
      (more ++ f (m + d), ap (texts_below f) {x = n} {y = (m + d) + 1} (omega (arith, e)) ∙ texts_more f (m + d) ∙ ap (λ (l : List ℕ). l ++ f (m + d)) split ∙ append_assoc (texts_below f m) more (f (m + d)))
