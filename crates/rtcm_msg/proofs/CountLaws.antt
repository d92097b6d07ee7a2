-- The number of IDs, pairs and cells.
use Rattle.rtcm_msg.proofs.Names.{ℕ, zero, suc, ◌≡◌, ◌+◌, ◌*◌, ◌%◌, ◌^◌, ◌<◌, ◌≤◌, Bool, List, [], ◌∷◌, length, map, refl, ap, ◌∙◌, arith, count_ones, length-append, ones_cat, mod_below, ones, ones_in, mod-eq_of_lt, length-map, flat_map, enumerate_from, Pair, MasksValue, AreMasks, pair_count, uint, up_from, ids, chosen, pair, all_pairs, cell_pairs, length-uint, mod-suc, length-enumerate_from}

-- ---- the number of IDs

ones_zero : count_ones 0 ≡ 0
unfolding ones ones_in
ones_zero = refl

ones_one : count_ones 1 ≡ 1
unfolding ones ones_in
ones_one = refl

up_count : (w n i : ℕ) → length (up_from i (uint w n)) ≡ count_ones (n % 2 ^ w)
unfolding up_from uint
up_count zero n i = let e : n % 2 ^ 0 ≡ 0 = omega arith in rw (e, ones_zero) refl
up_count (suc w) n i = grind (arith, mod-suc, ones_cat, mod_below, (up_count w n (i + 1)), ones_zero, ones_one)

pub ids_count : (w n : ℕ) → n < 2 ^ w → length (ids w n) ≡ count_ones n
ids_count w n h = up_count w n 1 ∙ ap count_ones (mod-eq_of_lt h)

-- ---- pairs

rows_length : (f : ℕ × ℕ → ℕ → Pair) (sig : List ℕ) (xs : List (ℕ × ℕ)) → length (flat_map (λ x. map (f x) sig) xs) ≡ length xs * length sig
rows_length f sig [] = omega arith
rows_length f sig (x ∷ xs) = length-append (map (f x) sig) (flat_map (λ x. map (f x) sig) xs) ∙ rw (length-map sig (f x), rows_length f sig xs) (omega arith)

pub pairs_count : (s : MasksValue) → AreMasks s → length (all_pairs s) ≡ pair_count s.satellites s.signals
pairs_count s h =
    rows_length pair (ids 32 s.signals) (enumerate_from 0 (ids 64 s.satellites))
    ∙ rw (length-enumerate_from 0 (ids 64 s.satellites), ids_count 64 s.satellites h.satellites, ids_count 32 s.signals h.signals) refl

chosen_count : (i : ℕ) (bits : List Bool) (xs : List Pair) → length bits ≤ length xs → length (chosen bits xs) ≡ length (up_from i bits)
unfolding chosen up_from
chosen_count i [] xs h = refl
chosen_count i (b ∷ bits) [] h = absurd (omega (arith, h))
chosen_count i (b ∷ bits) (x ∷ xs) h = grind (arith, chosen_count (i + 1) bits xs)

pub cell_pairs_count : (s : MasksValue) → AreMasks s → length (cell_pairs s) ≡ count_ones s.cells
cell_pairs_count s h =
    let p = pair_count s.satellites s.signals in
    chosen_count 1 (uint p s.cells) (all_pairs s) (omega (arith, length-uint p s.cells, pairs_count s h)) ∙ (up_count p s.cells 1 ∙ ap count_ones (mod-eq_of_lt h.cells))
