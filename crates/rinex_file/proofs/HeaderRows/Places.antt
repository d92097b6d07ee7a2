-- The rows of types and of slots, and where they are.
use Rattle.rinex_file.proofs.HeaderRows.Agree.{placed}
use Rattle.rinex_file.proofs.Names.{each_system, system_same, passes_below, common_steps, first_types, Has, HasRow, Known, Shown, counted, length, lit<, planned_of, subst, arith, ◌≡◌, ◌∙◌, sym, ap, refl, ℕ, zero, suc, ◌<◌, Bool, true, false, ◌==◌, ◌&&◌, nat_lt, System, passes_at, HeaderRow, Types, StrengthUnit, row_at, row_count, row_place, most_type_rows, is_system, is_less, Slots}

-- a line of a list is one of the first six, or four
abbrev few_lines : HeaderRow → Bool
few_lines (Types s row) = nat_lt row most_type_rows
few_lines (Slots row) = nat_lt row 4
few_lines other = true

pub few_rows : {n : ℕ} → n < row_count → (r : HeaderRow) → row_at n ≡ r → few_lines r ≡ true
few_rows {n} less r at = sym (ap few_lines at) ∙ passes_at (λ i. few_lines (row_at i)) row_count n refl less

pub slots_here : (row : ℕ) → row < 4 → row_at (row_place (Slots row)) ≡ Slots row
slots_here zero few = refl
slots_here (suc zero) few = refl
slots_here (suc (suc zero)) few = refl
slots_here row few = grind (arith, common_steps)

-- a row is this one of a system's types
abbrev is_row_of : System → ℕ → HeaderRow → Bool
is_row_of s row (Types t i) = is_system t s && (i == row)
is_row_of s row other = false

abbrev types_at : System → ℕ → Bool
types_at s row = is_row_of s row (row_at (row_place (Types s row)))

pub types_here : (s : System) (row : ℕ) → row < most_type_rows → row_at (row_place (Types s row)) ≡ Types s row
types_here s row few = grind (arith, common_steps, system_same, passes_at (types_at s) most_type_rows row (each_system (λ s. passes_below (types_at s) most_type_rows) s refl) few)

-- the types of a system are before the rows after them
pub types_early : (s : System) → row_place (Types s 5) < row_place StrengthUnit
types_early s = is_less (row_place (Types s 5)) (row_place StrengthUnit) (each_system (λ s. nat_lt (row_place (Types s 5)) (row_place StrengthUnit)) s refl)

-- what the rows before an index said of one of them
pub known_at : {k : Known} {n : ℕ} {h : Shown} → Has k n h → (r : HeaderRow) → row_at (row_place r) ≡ r → row_place r < n → HasRow k h r
known_at {k} {n} {h} has r at less = subst (HasRow k h) at (has.rows (row_place r) less)

-- after a system's first row of types, the number of its signals is known
pub number_known : {k : Known} {n : ℕ} {h : Shown} → Has k n h → (s : System) → first_types s < n → counted k s ≡ length (planned_of s h.plan)
number_known has s less = (known_at has (Types s 0) (types_here s 0 (lit< tt)) (omega (arith, less))).number

pub place_at : (n : ℕ) (r : HeaderRow) → n < row_count → row_at n ≡ r → n ≡ row_place r
place_at n r less at = sym (placed n less) ∙ ap row_place at

-- the line of a list before this one
pub earlier_types : {n : ℕ} → n < row_count → (s : System) (row : ℕ) → row_at n ≡ Types s (suc row) → (row_at (row_place (Types s row)) ≡ Types s row) × (row_place (Types s row) < n)
earlier_types {n} less s row at =
    let few = is_less (suc row) most_type_rows (few_rows less (Types s (suc row)) at) in
    (types_here s row (omega (arith, few)), omega (arith, place_at n (Types s (suc row)) less at))

pub earlier_slots : {n : ℕ} → n < row_count → (row : ℕ) → row_at n ≡ Slots (suc row) → (row_at (row_place (Slots row)) ≡ Slots row) × (row_place (Slots row) < n)
earlier_slots {n} less row at = grind (arith, common_steps, place_at n (Slots (suc row)) less at, slots_here)

-- the same system, or another
pub either : (P : Type 0) (s t : System) → (t ≡ s → P) → (is_system s t ≡ false → P) → P
either P s t same other = grind (arith, system_same)
