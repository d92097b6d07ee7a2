-- The cells of one satellite, in a list in the order of satellites.
use Rattle.gnss_obs.proofs.Names.{◌≡◌, ℕ, zero, suc, ◌+◌, ◌<◌, ◌≤◌, ◌==◌, Bool, true, false, ◌||◌, ◌&&◌, List, [], ◌∷◌, map, filter, drop, refl, sym, ap, ap₂, ◌∙◌, arith, length, not, if◌then◌else◌, nat_lt, recursion_from_All, System, Cell, is_before, SortKeysRise, cell_sort_key, AreSorted, AllByRecursion, list_any, satellites_in, AreHeld, has_value, is_written, written_among, is_of_satellite, common_steps, eqb-true}

-- ---- cells in the order of satellites

-- No cell is before one of a lower number.
abbrev pub Climb : List Cell → Type 0
Climb [] = Unit {0}
Climb (c ∷ cells) = AllByRecursion (λ (d : Cell). c.satellite.id ≤ d.satellite.id) cells × Climb cells

before_climbs : (planned : List ℕ) (c : Cell) (cells : List Cell) → AllByRecursion (λ t. is_before (cell_sort_key planned c) t ≡ true) (map (cell_sort_key planned) cells)
    → AllByRecursion (λ (d : Cell). c.satellite.id ≤ d.satellite.id) cells
before_climbs planned c [] h = tt
before_climbs planned c (d ∷ cells) h = grind (arith, common_steps, before_climbs planned c cells h.1)

rise_climbs : (planned : List ℕ) (cells : List Cell) → SortKeysRise (map (cell_sort_key planned) cells) → Climb cells
rise_climbs planned [] h = tt
rise_climbs planned (c ∷ cells) h = (before_climbs planned c cells h.0, rise_climbs planned cells h.1)

pub sorted_climbs : (cells : List Cell) → AreSorted cells → Climb cells
sorted_climbs cells h = rise_climbs h.0 cells h.1

-- ---- the first group of cells

abbrev pub Above : ℕ → List Cell → Type 0
Above n cells = AllByRecursion (λ (c : Cell). n < c.satellite.id) cells

pub all_above : (n m : ℕ) (cells : List Cell) → n < m → AllByRecursion (λ (d : Cell). m ≤ d.satellite.id) cells → Above n cells
all_above n m [] lt h = tt
all_above n m (c ∷ cells) lt h = (omega (arith, lt, h.0), all_above n m cells lt h.1)

-- ---- the terms of the code

-- The cells of later satellites that are left are all cells of these satellites.
pub record Left (n from : ℕ) (cells : List Cell) : Type 0 where
  pub within : from ≤ length cells
  pub above : Above n (drop from cells)
  pub rest : (later : ℕ) → n < later → filter (is_of_satellite later) cells ≡ filter (is_of_satellite later) (drop from cells)

pub left_all : (system : System) (cells : List Cell) → AreHeld system cells → Left 0 0 cells
left_all system cells h = grind (arith, recursion_from_All)

-- ---- the number of satellites to write

-- The number of satellites to write, each counted at its first cell with a value that follows a cell of `last`.
abbrev pub counted_after : ℕ → List Cell → ℕ
counted_after last [] = 0
counted_after last (c ∷ cells) = if has_value c && not (c.satellite.id == last) then suc (counted_after c.satellite.id cells) else counted_after last cells

abbrev one_if : Bool → ℕ
one_if b = if b then 1 else 0

-- No cell is of a satellite above n.
abbrev Within : ℕ → List Cell → Type 0
Within n cells = AllByRecursion (λ (c : Cell). c.satellite.id ≤ n) cells

none_written : (n : ℕ) (cells : List Cell) → Above n cells → is_written cells n ≡ false
none_written n [] h = refl
none_written n (c ∷ cells) h = grind (arith, common_steps, none_written n cells h.1)

-- One more cell changes nothing if it has no value, or among lower numbers.
no_value : (c : Cell) (cells : List Cell) (n : ℕ) → has_value c ≡ false → written_among (c ∷ cells) n ≡ written_among cells n
unfolding written_among
no_value c cells zero h = refl
no_value c cells (suc n) h = grind (arith, no_value c cells n h)

lower : (c : Cell) (cells : List Cell) (n : ℕ) → n < c.satellite.id → written_among (c ∷ cells) n ≡ written_among cells n
unfolding written_among
lower c cells zero lt = refl
lower c cells (suc n) lt = grind (arith, lower c cells n (omega (arith, lt)))

one_or_other : (k : ℕ) (a : Bool) → k + one_if a + one_if (not a) ≡ k + 1
one_or_other k a = grind (arith, common_steps)

one_more : (c : Cell) (cells : List Cell) (n : ℕ) → 1 ≤ c.satellite.id → c.satellite.id ≤ n → has_value c ≡ true
    → written_among (c ∷ cells) n ≡ written_among cells n + one_if (not (is_written cells c.satellite.id))
unfolding written_among
one_more c cells zero low high h = absurd (omega (arith, low, high))
one_more c cells (suc n) low high h = grind (arith, common_steps, lower, one_more c cells n low)

none_among : (n : ℕ) → written_among [] n ≡ 0
unfolding written_among
none_among zero = refl
none_among (suc n) = ap (λ k. k + 0) (none_among n)

-- Cells in the order of satellites, none of one below `last`.
counted_is : (n last : ℕ) (cells : List Cell) → Climb cells → Within n cells → Above 0 cells → AllByRecursion (λ (c : Cell). last ≤ c.satellite.id) cells
    → written_among cells n ≡ counted_after last cells + one_if (is_written cells last)
counted_is n last [] up within above from = none_among n
counted_is n last (c ∷ cells) up within above from = by (has_value c) (c.satellite.id == last) refl refl (λ m from. counted_is n m cells up.1 within.1 above.1 from) where
  by : (v s : Bool) → has_value c ≡ v → (c.satellite.id == last) ≡ s
      → ((m : ℕ) → AllByRecursion (λ (d : Cell). m ≤ d.satellite.id) cells → written_among cells n ≡ counted_after m cells + one_if (is_written cells m))
      → written_among (c ∷ cells) n ≡ (if v && not s then suc (counted_after c.satellite.id cells) else counted_after last cells) + one_if ((s && v) || is_written cells last)
  by false true e f more = no_value c cells n e ∙ more last from.1
  by false false e f more = no_value c cells n e ∙ more last from.1
  by true true e f more =
      one_more c cells n above.0 within.0 e ∙ ap₂ (λ k m. k + one_if (not (is_written cells m))) (more last from.1) (eqb-true c.satellite.id last f)
      ∙ one_or_other (counted_after last cells) (is_written cells last)
  by true false e f more =
      let later : last < c.satellite.id = grind (arith, f, from.0) in
      one_more c cells n above.0 within.0 e ∙ ap (λ k. k + one_if (not (is_written cells c.satellite.id))) (more c.satellite.id up.0)
      ∙ sum (counted_after c.satellite.id cells) (is_written cells c.satellite.id)
      ∙ ap (λ b. suc (counted_after c.satellite.id cells) + one_if b) (sym (none_written last cells (all_above last c.satellite.id cells later up.0))) where
        sum : (k : ℕ) (a : Bool) → k + one_if a + one_if (not a) ≡ suc k + 0
        sum k a = grind (arith, common_steps)

few_written : (cells : List Cell) (n : ℕ) → written_among cells n ≤ n
unfolding written_among
few_written cells zero = omega arith
few_written cells (suc n) = grind (arith, common_steps, few_written cells n)

pub all_counted : (count last i : ℕ) (cells : List Cell) → length cells ≤ i → count + counted_after last (drop i cells) ≡ counted_after 0 cells → count ≡ counted_after 0 cells
all_counted count last i cells end h = grind (arith, common_steps)

-- The satellites of kept cells in order are counted one by one.
pub counted_all : (system : System) (cells : List Cell) → AreHeld system cells → AreSorted cells
    → (counted_after 0 cells ≡ written_among cells (satellites_in system)) × (counted_after 0 cells ≤ satellites_in system)
counted_all system cells held sorted = grind (arith, few_written, recursion_from_All, left_all, counted_is, sorted_climbs, none_written, few_written cells (satellites_in system))

-- A satellite of kept cells is written if one of the cells has a value.
pub some_counted : (system : System) (cells kept : List Cell) → cells ≡ kept → AreHeld system cells → AreSorted cells
    → list_any has_value cells ≡ nat_lt 0 (written_among kept (satellites_in system))
some_counted system cells kept is held sorted =
    by cells (left_all system cells held).above ∙ ap (nat_lt 0) ((counted_all system cells held sorted).0 ∙ ap (λ (xs : List Cell). written_among xs (satellites_in system)) is) where
      by : (cells : List Cell) → Above 0 cells → list_any has_value cells ≡ nat_lt 0 (counted_after 0 cells)
      by [] above = refl
      by (c ∷ cells) above = grind (arith, common_steps, (by cells above.1))
