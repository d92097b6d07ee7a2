-- The cells of a pending epoch, in the order in which they arrive.
use Rattle.std.specs.Prelude.{ℕ, ◌+◌, ◌*◌, ◌≡◌, ◌<◌, ◌≤◌, ◌==◌, Bool, nat_eq, nat_le, List, [], ◌∷◌, ◌++◌, length, get_or}
use Rattle.std.specs.Prelude.{map, if◌then◌else◌}
use Rattle.std.specs.Option.{option_map_or}
use Rattle.std.specs.Int.{bit_at}
use Rattle.std.specs.List.{All, AllByRecursion, IsDistinct, list_any}
use Rattle.gnss_system.specs.declared.system.System.{System}
use Rattle.gnss_obs.specs.declared.cell.Cell.{Cell}
use Rattle.gnss_obs.specs.declared.epoch_cells.Added.{Added}
use Rattle.gnss_obs.specs.declared.epoch_cells.Added.TheVariants.{Kept, Repeated, Crowded}
use Rattle.gnss_system.specs.Satellites.{most_satellites}
use Rattle.gnss_obs.specs.HeardCells.{heard_cell}
use Rattle.gnss_obs.specs.Values.{AreHeld, CellLists, PlanValue, EpochValue, most_cells}
use Rattle.gnss_system.specs.SystemValues.{value_of, with_value_of}
use Rattle.gnss_obs.specs.Plans.{place_in}
use Rattle.gnss_obs.specs.inner.PlanOrder.{is_held}
use Rattle.gnss_obs.specs.Arriving.{sorted_cells, sorted_lists}

-- ---- one more cell

-- The outcome of a cell, from whether its key is kept, and from the number of kept cells of its system.
abbrev pub outcome_by : Bool → ℕ → Added
outcome_by held count = if held then Repeated else (if nat_le most_cells count then Crowded else Kept)

-- The cells after a cell of this outcome.
abbrev pub cells_after : Added → List Cell → Cell → List Cell
cells_after Kept cells x = cells ++ x ∷ []
cells_after _ cells x = cells

-- One more cell is kept, unless one of its key is kept, or there is no room.
pub record IsAdded (old : CellLists) (x : Cell) (added : Added) (new : CellLists) : Type 0 where
  pub outcome : added ≡ outcome_by (is_held (value_of x.satellite.system old) (heard_cell x))
      (length (value_of x.satellite.system old))
  pub lists : new
      ≡ with_value_of x.satellite.system old (cells_after added (value_of x.satellite.system old) x)

-- ---- the table that finds the cell of a key

-- The number of entries of each satellite: more than a system has signals.
abbrev pub satellite_slots : ℕ
satellite_slots = 32

-- Those of each number of a satellite, and of 0, which no satellite has.
abbrev pub most_slots : ℕ
most_slots = satellite_slots * (most_satellites + 1)

-- The index of the entry of a cell's key.
abbrev pub slot : Cell → ℕ
slot c = satellite_slots * c.satellite.id + c.signal.index

-- A cell of this entry's key.
abbrev pub has_slot : ℕ → List ℕ → Bool
has_slot n slots = list_any (λ s. s == n) slots

-- The entry is the index of a cell of its key.
abbrev pub IsFound : List ℕ → List ℕ → ℕ → Type 0
IsFound table slots s = (get_or table s 0 < length slots) × (get_or slots (get_or table s 0) 0 ≡ s)

abbrev pub AreFound : List ℕ → List Cell → Type 0
AreFound table cells = AllByRecursion (IsFound table (map slot cells)) (map slot cells)

-- Kept cells of a system, no two of the same key.
pub record AreKept (system : System) (cells : List Cell) : Type 0 where
  pub held : AreHeld system cells
  pub apart : IsDistinct nat_eq (map slot cells)

-- One more cell of a system is kept, unless one of its key is kept, or there is no room.
pub record AddsCell (old : List Cell) (x : Cell) (added : Added) (new : List Cell) : Type 0 where
  pub outcome : added ≡ outcome_by (has_slot (slot x) (map slot old)) (length old)
  pub cells : new ≡ cells_after added old x

-- ---- sorting

abbrev pub sorted_epoch : PlanValue → EpochValue → EpochValue
sorted_epoch p e = record { time = e.time; cells = sorted_lists p e.cells }

-- A number that rises with the sort key.
abbrev pub cell_number : List ℕ → Cell → ℕ
cell_number planned c = 64 * c.satellite.id + option_map_or (λ p. p) (place_in c.signal planned) 0

-- The first of the sorted cells: those whose numbers are below n.
pub record AreBelow (planned : List ℕ) (n : ℕ) (cells first : List Cell) : Type 0 where
  pub rest : List Cell
  pub split : sorted_cells planned cells ≡ first ++ rest
  pub earlier : All (λ c. cell_number planned c < n) first
  pub later : All (λ c. n ≤ cell_number planned c) rest

-- Bit n of the set is satellite n: it has no satellite above this one, and each that has a cell.
pub record HasSatellites (most : ℕ) (cells : List Cell) (set : ℕ) : Type 0 where
  pub listed : (n : ℕ) → bit_at set n ≡ 1 → n ≤ most
  pub each : All (λ c. bit_at set c.satellite.id ≡ 1) cells
