-- Iteration over pairs: the first ID is removed from a set.
use Rattle.rtcm_msg.proofs.Names.{ℕ, zero, suc, ◌≡◌, ◌≢◌, ◌+◌, ◌*◌, ◌-◌, ◌/◌, ◌%◌, ◌^◌, ◌<◌, ◌≤◌, Bool, List, [], ◌∷◌, ◌++◌, length, map, refl, sym, ap, ◌∙◌, subst, arith, count_ones, inl, inr, zero-add, count_leading_zeros, bit_xor, xor_add_and, leading_top, pow_pos, cases_lt, div-eq_of_lt, uint, Pair, up_from, ids, pair, chosen, MasksValue, AreMasks, pair_count, all_pairs_from, pairs_from, IndicesAreBelow, AreAll, uint-low, pow_mono, length-uint, and_pow}
use Rattle.rtcm_msg.proofs.CountLaws.{ids_count, pairs_count, cell_pairs_count}

-- ---- the highest bit of a set

pub record Top (w m j : ℕ) : Type 0 where
  pub low : 2 ^ j ≤ m
  pub high : m < 2 ^ suc j
  pub within : j < w

pub top_of : (w m : ℕ) → 0 < m → m < 2 ^ w → w ≤ 64 → Top w m (63 - count_leading_zeros 64 m)
top_of w m some fits few =
    let room : 2 ^ w ≤ 2 ^ 64 = pow_mono w 64 few in
    let top = leading_top 64 m some (omega (arith, fits, room)) in
    let is : top.0 ≡ 63 - count_leading_zeros 64 m = omega (arith, top.1) in
    subst (Top w m) is (record { low = top.2; high = top.3; within = inside top.0 top.2 })
  where
    inside : (j : ℕ) → 2 ^ j ≤ m → j < w
    inside j low = elim (cases_lt j w) [ inl below ↦ below | inr above ↦ let more : 2 ^ w ≤ 2 ^ j = pow_mono w j above in absurd (omega (arith, fits, low, more)) ]

-- The number divided by its top bit is 1.
whole_part : (m w : ℕ) → 2 ^ w ≤ m → m < 2 ^ suc w → m / 2 ^ w ≡ 1
whole_part m w low high = grind arith

none_part : (m w : ℕ) → m < 2 ^ w → m / 2 ^ w ≡ 0
none_part m w h = div-eq_of_lt h

-- The number without its top bit.
pub without_top : (w m j : ℕ) → Top w m j → bit_xor m (2 ^ j) ≡ m - 2 ^ j
without_top w m j top = grind (arith, whole_part, and_pow, xor_add_and)

up_split : (w i m j : ℕ) → j < w → 2 ^ j ≤ m → m < 2 ^ suc j → up_from i (uint w m) ≡ (i + (w - 1 - j)) ∷ up_from i (uint w (m - 2 ^ j))
unfolding up_from uint
up_split zero i m j h low high = absurd (omega (arith, h))
up_split (suc w) i m j h low high = elim (cases_lt j w) [
  | inl below ↦
      let room : 2 ^ suc j ≤ 2 ^ w = pow_mono (suc j) w (omega (arith, below)) in
      let one : m / 2 ^ w ≡ 0 = none_part m w (omega (arith, high, room)) in
      let two : (m - 2 ^ j) / 2 ^ w ≡ 0 = none_part (m - 2 ^ j) w (omega (arith, high, room)) in
      let place : i + 1 + (w - 1 - j) ≡ i + (suc w - 1 - j) = omega (arith, below) in
      rw (one, two, up_split w (i + 1) m j below low high, place) refl
  | inr above ↦
      let is : j ≡ w = omega (arith, h, above) in
      last (rw is at low) (rw is at high) is
]
  where
    last : 2 ^ w ≤ m → m < 2 ^ suc w → j ≡ w → up_from i (uint (suc w) m) ≡ (i + (suc w - 1 - j)) ∷ up_from i (uint (suc w) (m - 2 ^ j))
    last low high is =
        let one : m / 2 ^ w ≡ 1 = whole_part m w low high in
        let two : (m - 2 ^ w) / 2 ^ w ≡ 0 = none_part (m - 2 ^ w) w (omega (arith, low, high)) in
        let sum : 1 * 2 ^ w + (m - 2 ^ w) ≡ m = omega (arith, low) in
        let same : uint w m ≡ uint w (m - 2 ^ w) = ap (uint w) (sym sum) ∙ uint-low w 1 (m - 2 ^ w) in
        let place : i + (suc w - 1 - w) ≡ i = omega arith in
        rw (is, one, two, same, place) refl

pub ids_split : (w m j : ℕ) → Top w m j → ids w m ≡ (w - j) ∷ ids w (m - 2 ^ j)
ids_split w m j top = let place : 1 + (w - 1 - j) ≡ w - j = omega (arith, top.within) in up_split w 1 m j top.within top.low top.high ∙ rw place refl

up_none : (w i : ℕ) → up_from i (uint w 0) ≡ []
unfolding up_from uint
up_none zero i = refl
up_none (suc w) i = let none : 0 / 2 ^ w ≡ 0 = div-eq_of_lt (pow_pos w) in rw none (up_none w (i + 1))

pub ids_none : (w : ℕ) → ids w 0 ≡ []
ids_none w = up_none w 1

up_few : (i : ℕ) (bits : List Bool) → length (up_from i bits) ≤ length bits
unfolding up_from
up_few i [] = omega arith
up_few i (b ∷ bits) = grind (arith, up_few (i + 1) bits)

pub ids_few : (w m : ℕ) → length (ids w m) ≤ w
ids_few w m = let few = up_few 1 (uint w m) in omega (arith, few, length-uint w m)

-- ---- pairs

pub all_pairs_from_is : (all : List ℕ) (k : ℕ) (xs : List ℕ) → all_pairs_from all k xs ≡ pairs_from k xs all all
all_pairs_from_is all k xs = grind arith

all_pairs_from_none : (k : ℕ) (xs : List ℕ) → all_pairs_from [] k xs ≡ []
all_pairs_from_none k [] = refl
all_pairs_from_none k (x ∷ xs) = all_pairs_from_none (k + 1) xs

-- If pairs are left, a satellite is left.
pub satellite_left : (k m : ℕ) (left all : List ℕ) → 0 < length (pairs_from k (ids 64 m) left all) → 0 < m
satellite_left k zero left all h = let none : pairs_from k (ids 64 0) left all ≡ [] = ap (λ (xs : List ℕ). pairs_from k xs left all) (ids_none 64) in absurd (omega (arith, rw none at h))
satellite_left k (suc m) left all h = omega arith

-- If pairs are left and no signal was removed, a signal is left.
pub signal_left : (k : ℕ) (xs : List ℕ) (g : ℕ) → 0 < length (pairs_from k xs (ids 32 g) (ids 32 g)) → 0 < g
signal_left k xs zero h = grind (arith, all_pairs_from_is, ids_none, all_pairs_from_none)
signal_left k xs (suc g) h = omega arith

-- No signal of the first satellite is left.
pub next_row : (k m g x n all : ℕ) → g ≡ 0 → ids 64 m ≡ x ∷ ids 64 n → pairs_from (k + 1) (ids 64 n) (ids 32 all) (ids 32 all) ≡ pairs_from k (ids 64 m) (ids 32 g) (ids 32 all)
next_row k m g x n all none e = sym (all_pairs_from_is (ids 32 all) (k + 1) (ids 64 n)) ∙ rw (none, e, ids_none 32) refl

-- ---- indices

row_indices : (n k x : ℕ) (gs : List ℕ) (others : List Pair) → k < n → IndicesAreBelow n others → IndicesAreBelow n (map (pair (k, x)) gs ++ others)
row_indices n k x [] others h rest = rest
row_indices n k x (g ∷ gs) others h rest = (h, row_indices n k x gs others h rest)

pub all_pairs_indices : (n : ℕ) (gs : List ℕ) (k : ℕ) (xs : List ℕ) → k + length xs ≤ n → IndicesAreBelow n (all_pairs_from gs k xs)
all_pairs_indices n gs k [] h = tt
all_pairs_indices n gs k (x ∷ xs) h = row_indices n k x gs (all_pairs_from gs (k + 1) xs) (omega (arith, h)) (all_pairs_indices n gs (k + 1) xs (omega (arith, h)))

-- Before the first pair all pairs are left.
pub all_left : (s : MasksValue) (m g : ℕ) → AreMasks s → m ≡ s.satellites → g ≡ s.signals → AreAll s (count_ones m * count_ones g) (record { index = 0; satellites = m; signals = g; all = g })
all_left s m g sets e f =
    let all = all_pairs_from_is (ids 32 s.signals) 0 (ids 64 s.satellites) in
    let count = ids_count 64 s.satellites sets.satellites in
    rw (e, f) (record {
      left = (
        ap length (sym all) ∙ pairs_count s sets,
        sets.few,
        record { satellites = sets.satellites; signals = sets.signals; all = sets.signals; index = rw (zero-add (length (ids 64 s.satellites))) (ids_few 64 s.satellites) },
        subst (IndicesAreBelow (count_ones s.satellites)) all (all_pairs_indices (count_ones s.satellites) (ids 32 s.signals) 0 (ids 64 s.satellites) (omega (arith, count))),
      );
      cells = ap (chosen (uint (pair_count s.satellites s.signals) s.cells)) (sym all);
      count = cell_pairs_count s sets;
    })

-- ---- cells

-- The first pair has a cell, or it has none.
pub found : (l n : ℕ) (xs ys : List Pair) (x : Pair) → length xs ≡ l → xs ≡ x ∷ ys → n / 2 ^ (l - 1) % 2 ≡ 1 → chosen (uint l n) xs ≡ x ∷ chosen (uint (l - 1) n) ys
unfolding chosen uint
found l n xs ys x h k m = grind arith

pub passed : (l n : ℕ) (xs ys : List Pair) (x : Pair) → length xs ≡ l → xs ≡ x ∷ ys → n / 2 ^ (l - 1) % 2 ≢ 1 → chosen (uint l n) xs ≡ chosen (uint (l - 1) n) ys
unfolding chosen uint
passed l n xs ys x h k m = grind arith

pub over : (l n : ℕ) (whole xs : List Pair) → l ≡ 0 → whole ≡ chosen (uint l n) xs → whole ≡ []
unfolding chosen uint
over l n whole xs none same = same ∙ rw none refl

-- One pair fewer.
pub one_less : (l : ℕ) (xs ys : List Pair) (x : Pair) → length xs ≡ l → xs ≡ x ∷ ys → length ys ≡ l - 1
one_less l xs ys x count e = omega (arith, rw e at count)

pub first_index : (n : ℕ) (xs ys : List Pair) (x : Pair) → xs ≡ x ∷ ys → IndicesAreBelow n xs → (x.index < n) × IndicesAreBelow n ys
first_index n xs ys x e h = subst (IndicesAreBelow n) e h
