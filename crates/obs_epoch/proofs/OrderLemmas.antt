-- Cells in order.
use Rattle.obs_epoch.proofs.Names.{◌≡◌, ℕ, List, [], ◌∷◌, sym, length, fold, IsDistinct-IsPermutation, list_any-IsPermutation, length_permutation, all-insert_by, sort_moves, is_among, has_same_key, insert_by, sort_key_of, sorted, HeardCell, AllByRecursion, IsDistinct}
use Rattle.obs_epoch.proofs.CellsLemmas.{same_key_laws}

-- ---- the same cells

abbrev onto : List ℕ → List HeardCell → List HeardCell → List HeardCell
onto planned ys xs = fold (λ zs z. insert_by (sort_key_of planned) z zs) ys xs

pub among-sorted : (planned : List ℕ) (xs : List HeardCell) (key : HeardCell) → is_among (sorted planned xs) key ≡ is_among xs key
among-sorted planned xs key = sym (list_any-IsPermutation (has_same_key key) xs (sorted planned xs) (sort_moves (sort_key_of planned) xs))

pub length-sorted : (planned : List ℕ) (xs : List HeardCell) → length (sorted planned xs) ≡ length xs
length-sorted planned xs = length_permutation xs (sorted planned xs) (sort_moves (sort_key_of planned) xs)

all-onto : (P : HeardCell → Type 0) (planned : List ℕ) (ys xs : List HeardCell) → AllByRecursion P ys → AllByRecursion P xs → AllByRecursion P (onto planned ys xs)
all-onto P planned ys [] h k = h
all-onto P planned ys (x ∷ xs) h k = all-onto P planned (insert_by (sort_key_of planned) x ys) xs (all-insert_by P (sort_key_of planned) x ys k.0 h) k.1

pub all-sorted : (P : HeardCell → Type 0) (planned : List ℕ) (xs : List HeardCell) → AllByRecursion P xs → AllByRecursion P (sorted planned xs)
all-sorted P planned xs h = all-onto P planned [] xs tt h

pub distinct-sorted : (planned : List ℕ) (xs : List HeardCell) → IsDistinct has_same_key xs → IsDistinct has_same_key (sorted planned xs)
distinct-sorted planned xs d = IsDistinct-IsPermutation has_same_key same_key_laws.symm xs (sorted planned xs) (sort_moves (sort_key_of planned) xs) d
