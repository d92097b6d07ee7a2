-- The meaning of a multiple signal message: a header, the satellites with their data, the signals, and the cells of
-- pairs of both.
use Rattle.gnss_system.specs.declared.system.System.{System}
use Rattle.std.specs.Prelude.{ℕ, ◌≡◌, ◌+◌, ◌*◌, ◌≤◌, ◌⊎◌, List, [], ◌∷◌, map, length}
use Rattle.std.specs.List.{zip}
use Rattle.rtcm_msg.specs.declared.header.MsmHeader.{MsmHeader}
use Rattle.rtcm_msg.specs.declared.pairs.Pair.{Pair}
use Rattle.rtcm_msg.specs.Packed.{total_width}
use Rattle.rtcm_msg.specs.Columns.{EachBelow}
use Rattle.rtcm_msg.specs.Msm.{MsmValue, MasksValue, IsHeader, satellite_mask_bits, signal_mask_bits, most_pairs}
use Rattle.rtcm_msg.specs.Entries.{ids, cell_pairs, Rising}

-- For each satellite its ID and its data, in rising order of the IDs; the IDs of the signals, rising; for each cell the
-- IDs of its satellite and its signal, and its data, ordered by satellite, then by signal.
pub record Meaning : Type 0 where
  pub system : System
  pub header : MsmHeader
  pub satellites : List (ℕ × ℕ)
  pub signals : List ℕ
  pub cells : List ((ℕ × ℕ) × ℕ)

abbrev pub ids_of : Pair → ℕ × ℕ
ids_of x = (x.satellite, x.signal)

-- The pairs of a satellite and a signal that have a cell.
abbrev pub cell_ids : MasksValue → List (ℕ × ℕ)
cell_ids s = map ids_of (cell_pairs s)

-- A pair as one number, which rises by satellite, then by signal.
abbrev pub pair_number : ℕ × ℕ → ℕ
pair_number p = satellite_mask_bits * p.0 + p.1

-- The numbers of the first and of the last pair.
abbrev pub first_pair : ℕ
first_pair = 65

abbrev pub last_pair : ℕ
last_pair = 4128

abbrev pub meaning : MsmValue → Meaning
meaning v = record {
  system = v.system;
  header = v.header;
  satellites = zip (ids satellite_mask_bits v.sets.satellites) v.satellites;
  signals = ids signal_mask_bits v.sets.signals;
  cells = zip (cell_ids v.sets) v.cells;
}

-- ---- the meanings of values

-- The list contains it.
abbrev pub IsIn : {A : Type 0} → A → List A → Type 0
IsIn y [] = ⊥
IsIn y (x ∷ xs) = (y ≡ x) ⊎ IsIn y xs

abbrev pub Each : {A : Type 0} → (A → Type 0) → List A → Type 0
Each P [] = Unit {0}
Each P (x ∷ xs) = P x × Each P xs

abbrev pub keys : {A : Type 0} → List (A × ℕ) → List A
keys xs = map (λ x. x.0) xs

abbrev pub data_of : {A : Type 0} → List (A × ℕ) → List ℕ
data_of xs = map (λ x. x.1) xs

-- The satellites and the signals rise, with at most the largest number of pairs. The pairs of the cells are of these
-- and rise. The data fit the fields.
pub record IsMeaning (satellite_widths cell_widths : List ℕ) (m : Meaning) : Type 0 where
  pub header : IsHeader m.system m.header
  pub satellites : Rising 1 satellite_mask_bits (keys m.satellites)
  pub signals : Rising 1 signal_mask_bits m.signals
  pub few : length (keys m.satellites) * length m.signals ≤ most_pairs
  pub cells : Rising first_pair last_pair (map pair_number (keys m.cells))
  pub pairs : Each (λ p. IsIn p.0 (keys m.satellites) × IsIn p.1 m.signals) (keys m.cells)
  pub satellite_data : EachBelow (total_width satellite_widths) (data_of m.satellites)
  pub cell_data : EachBelow (total_width cell_widths) (data_of m.cells)
