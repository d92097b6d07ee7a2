-- The order of kept cells: by satellite, then by the order of the plan.
use Rattle.std.specs.Prelude.{ℕ, ◌≡◌, ◌<◌, ◌==◌, ◌&&◌, ◌||◌, ⊤, Bool, true, nat_lt, List, [], ◌∷◌, fold, map}
use Rattle.std.specs.Prelude.{if◌then◌else◌}
use Rattle.std.specs.Option.{option_map_or}
use Rattle.std.specs.List.{AllByRecursion}
use Rattle.gnss_system.specs.Satellites.{Satellite}
use Rattle.gnss_system.specs.Signals.{SignalAt}
use Rattle.gnss_obs.specs.declared.cell.Cell.{Cell}
use Rattle.gnss_obs.specs.Values.{PlanValue, EpochValue, planned_of, cells_of}
use Rattle.gnss_system.specs.declared.system.System.{System}
use Rattle.gnss_obs.specs.Plans.{place_in}
use Rattle.gnss_obs.specs.HeardCells.{HeardCell}

-- A sort key: the number of a satellite, and the index of a signal in the plan.
pub record SortKey : Type 0 where
  pub satellite : ℕ
  pub place : ℕ

-- The sort key of a satellite and signal: the satellite's number, and the index of the signal among the planned ones.
abbrev pub sort_key : List ℕ → Satellite → SignalAt → SortKey
sort_key planned satellite signal =
    record { satellite = satellite.id; place = option_map_or (λ p. p) (place_in signal planned) 0 }

-- By satellite, then by index.
abbrev pub is_before : SortKey → SortKey → Bool
is_before a b = nat_lt a.satellite b.satellite || ((a.satellite == b.satellite) && nat_lt a.place b.place)

-- Each sort key is less than all after it.
abbrev pub SortKeysRise : List SortKey → Type 0
SortKeysRise [] = ⊤
SortKeysRise (s ∷ ss) = AllByRecursion (λ t. is_before s t ≡ true) ss × SortKeysRise ss

-- Inserts an item before the first one with a greater sort key.
abbrev pub insert_by : {X : Type 0} → (X → SortKey) → X → List X → List X
insert_by at x [] = x ∷ []
insert_by at x (y ∷ ys) = if is_before (at x) (at y) then x ∷ y ∷ ys else y ∷ insert_by at x ys

-- The items sorted by their sort keys; those with the same one in their order in the list.
abbrev pub sorted_by : {X : Type 0} → (X → SortKey) → List X → List X
sorted_by at xs = fold (λ ys x. insert_by at x ys) [] xs

-- ---- numbers in order

-- Each number is less than all after it, and than this bound.
abbrev pub RiseTo : ℕ → List ℕ → Type 0
RiseTo bound [] = ⊤
RiseTo bound (n ∷ ns) = (n < bound) × AllByRecursion (λ m. n < m) ns × RiseTo bound ns

abbrev pub Rise : List ℕ → Type 0
Rise ns = (bound : ℕ) × RiseTo bound ns

-- Kept in place of the least next number if the numbers don't rise.
abbrev pub unsorted : ℕ
unsorted = 2048

-- Numbers rise to the least one that may follow, if that is kept.
abbrev pub IsLeastNext : ℕ → List ℕ → Type 0
IsLeastNext least ns = least < unsorted → RiseTo least ns

-- ---- cells

abbrev pub sort_key_of : List ℕ → HeardCell → SortKey
sort_key_of planned x = sort_key planned x.satellite x.signal

abbrev pub cell_sort_key : List ℕ → Cell → SortKey
cell_sort_key planned c = sort_key planned c.satellite c.signal

abbrev pub sorted : List ℕ → List HeardCell → List HeardCell
sorted planned xs = sorted_by (sort_key_of planned) xs

-- Cells in the order of satellites, then of the indices of their signals in the list; no two have the same sort key.
abbrev pub AreOrderedBy : List ℕ → List Cell → Type 0
AreOrderedBy planned cells = SortKeysRise (map (cell_sort_key planned) cells)

-- The cells of each system are in the order of the plan.
abbrev pub AreSortedByPlan : PlanValue → EpochValue → Type 0
AreSortedByPlan p e = (s : System) → AreOrderedBy (planned_of s p) (cells_of s e)

-- Cells in the order of satellites, then in some order of signals.
abbrev pub AreSorted : List Cell → Type 0
AreSorted cells = (planned : List ℕ) × AreOrderedBy planned cells
