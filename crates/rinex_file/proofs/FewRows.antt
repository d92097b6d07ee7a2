-- An epoch has no more satellites than the planned systems.
use Rattle.rinex_file.proofs.Names.{◌*◌, le_trans, lit≤, systems, index_of, is_system, sum_at_most, sum_less, system_same, sum_by, arith, ◌≡◌, refl, subst, ℕ, suc, ◌+◌, ◌-◌, ◌<◌, ◌≤◌, true, List, [], ◌∷◌, length, if◌then◌else◌, All, map, nat_lt, slice_index, IsStrictlyIncreasing, lt-ltb, All-head, All-tail, System, satellites, SatelliteRow, IsSatelliteRow, AreSatelliteRows, rank_of, most_rows}

-- the ranks from k on of a system, and those of the planned systems
ranks : ℕ → System → ℕ
ranks k s = satellites s - (k - (100 * index_of s + 1))

abbrev room : (System → ℕ) → ℕ → ℕ
room signals k = sum_by (λ s. if nat_lt 0 (signals s) then ranks k s else 0) systems

-- a satellite has one of the ranks that are left
one_less : {signals : System → ℕ} (k n : ℕ) {s : SatelliteRow} → IsSatelliteRow signals s → k ≤ rank_of s → n ≤ room signals (rank_of s + 1) → suc n ≤ room signals k
unfolding ranks
one_less {signals} k n {s} is low h =
    let less = sum_less (λ t. if nat_lt 0 (signals t) then ranks (rank_of s + 1) t else 0) (λ t. if nat_lt 0 (signals t) then ranks k t else 0) s.system
    (λ t. grind (arith, own t, is.row.satellite.0)) in
    omega (arith, less, h)
  where
    own : (t : System) → is_system s.system t ≡ true → (nat_lt 0 (signals t) ≡ true) × (index_of t ≡ index_of s.system) × (s.row.satellite ≤ satellites t)
    own t e = subst (λ (r : System). (nat_lt 0 (signals r) ≡ true) × (index_of r ≡ index_of s.system) × (s.row.satellite ≤ satellites r)) (system_same s.system t e) (lt-ltb 0 (signals s.system) is.planned, refl, is.row.satellite.1)

-- the first number, if there is one, is at least k
FromFirst : ℕ → List ℕ → Type 0
FromFirst k xs = 0 < length xs → k ≤ slice_index xs 0

pub rise-tail : (x : ℕ) (xs : List ℕ) → IsStrictlyIncreasing (x ∷ xs) → IsStrictlyIncreasing xs
rise-tail x xs rise k h =
    let next : suc k + 1 ≡ suc (k + 1) = omega arith in
    subst (λ (n : ℕ). slice_index xs k < slice_index (x ∷ xs) n) next (rise (suc k) (omega (arith, h)))

few_from : (signals : System → ℕ) (k : ℕ) (rows : List SatelliteRow) → All (IsSatelliteRow signals) rows → IsStrictlyIncreasing (map rank_of rows) → FromFirst k (map rank_of rows) → length rows ≤ room signals k
unfolding FromFirst
few_from signals k [] each rise low = omega arith
few_from signals k (s ∷ rows) each rise low =
    let others = few_from signals (rank_of s + 1) rows (All-tail (IsSatelliteRow signals) s rows each) (rise-tail (rank_of s) (map rank_of rows) rise)
    (λ h. let less : rank_of s < slice_index (map rank_of rows) 0 = rise 0 (omega (arith, h)) in omega (arith, less)) in
    one_less k (length rows) (All-head (IsSatelliteRow signals) s rows each) (low (omega arith)) others

from_one : (signals : System → ℕ) → room signals 1 ≤ most_rows signals
unfolding ranks
from_one signals = grind (arith, sum_at_most)

-- they fit the columns of an epoch's line
pub few_most : (signals : System → ℕ) → most_rows signals ≤ 999
few_most signals = grind (arith, le_trans, sum_at_most, lit≤)

pub some_rank : (signals : System → ℕ) (s : SatelliteRow) → IsSatelliteRow signals s → 0 < rank_of s
some_rank signals s is = let h = is.row.satellite.0 in omega (arith, h)

low_first : (signals : System → ℕ) (rows : List SatelliteRow) → All (IsSatelliteRow signals) rows → FromFirst 1 (map rank_of rows)
unfolding FromFirst
low_first signals [] each h = absurd (omega (arith, h))
low_first signals (s ∷ rows) each h = some_rank signals s (All-head (IsSatelliteRow signals) s rows each)

pub few_rows : (signals : System → ℕ) (rows : List SatelliteRow) → AreSatelliteRows signals rows → length rows ≤ most_rows signals
few_rows signals rows are = omega (arith, few_from signals 1 rows are.each are.rise (low_first signals rows are.each), from_one signals)
