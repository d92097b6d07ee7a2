-- Iteration over the pairs of satellites and signals: the first ID is removed from a set.
use Rattle.std.specs.Prelude.{◌≡◌, ℕ, ◌+◌, ◌^◌, ◌<◌, ◌≤◌, List, [], ◌∷◌, ◌++◌, map, length, count_ones}
use Rattle.std.specs.List.{flat_map, enumerate_from}
use Rattle.rtcm_bits.specs.Bits.{uint}
use Rattle.rtcm_msg.specs.declared.pairs.Pair.{Pair}
use Rattle.rtcm_msg.specs.declared.pairs.Pairs.{Pairs}
use Rattle.rtcm_msg.specs.Msm.{MasksValue, satellite_mask_bits, signal_mask_bits, most_pairs}
use Rattle.rtcm_msg.specs.Entries.{ids, pair, chosen, cell_pairs}

-- The pairs of these satellites, with indices from k on, with each of these signals.
abbrev pub all_pairs_from : List ℕ → ℕ → List ℕ → List Pair
all_pairs_from signals k satellites = flat_map (λ x. map (pair x) signals) (enumerate_from k satellites)

-- The pairs of the first satellite with the signals that are left, and those of the others with all signals.
abbrev pub pairs_from : ℕ → List ℕ → List ℕ → List ℕ → List Pair
pairs_from k [] left all = []
pairs_from k (x ∷ xs) left all = map (pair (k, x)) left ++ all_pairs_from all (k + 1) xs

abbrev pub pairs_left : Pairs → List Pair
pairs_left p =
    pairs_from p.index (ids satellite_mask_bits p.satellites) (ids signal_mask_bits p.signals)
    (ids signal_mask_bits p.all)

-- The pairs with a cell among those that are left.
abbrev pub cell_pairs_left : ℕ → MasksValue → Pairs → List Pair
cell_pairs_left left sets pairs = chosen (uint left sets.cells) (pairs_left pairs)

-- The masks fit their bits, and the indices are less than the largest number of satellites.
pub record ArePairs (p : Pairs) : Type 0 where
  pub satellites : p.satellites < 2 ^ satellite_mask_bits
  pub signals : p.signals < 2 ^ signal_mask_bits
  pub all : p.all < 2 ^ signal_mask_bits
  pub index : p.index + length (ids satellite_mask_bits p.satellites) ≤ satellite_mask_bits

-- The first satellite is left, with a signal.
abbrev pub HasFirst : Pairs → Type 0
HasFirst p = (0 < p.satellites) × (0 < p.signals)

-- The index of each satellite is less than n.
abbrev pub IndicesAreBelow : ℕ → List Pair → Type 0
IndicesAreBelow n [] = Unit {0}
IndicesAreBelow n (x ∷ xs) = (x.index < n) × IndicesAreBelow n xs

-- `left` pairs are left, of this number of satellites.
abbrev pub AreLeft : ℕ → ℕ → Pairs → Type 0
AreLeft satellites left p =
    (length (pairs_left p) ≡ left) × (left ≤ most_pairs) × ArePairs p × IndicesAreBelow satellites (pairs_left p)

-- All n pairs of a message are left.
pub record AreAll (s : MasksValue) (n : ℕ) (p : Pairs) : Type 0 where
  pub left : AreLeft (count_ones s.satellites) n p
  pub cells : cell_pairs_left n s p ≡ cell_pairs s
  pub count : length (cell_pairs s) ≡ count_ones s.cells

-- Of the pairs that are left, the first one that the low bits of the number choose is this pair, and `after` pairs come
-- after it.
abbrev pub SplitsCells : ℕ → ℕ → Pairs → Pair → Pairs → ℕ → Type 0
SplitsCells left cells pairs first rest after =
    (chosen (uint left cells) (pairs_left pairs) ≡ first ∷ chosen (uint after cells) (pairs_left rest))
    × (length (pairs_left rest) ≡ after) × (after ≤ most_pairs) × ArePairs rest
