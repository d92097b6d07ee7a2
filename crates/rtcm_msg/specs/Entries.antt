-- The cells of a message, as entries.
use Rattle.std.specs.Prelude.{◌<◌, ◌^◌, IfSome, unsigned_abs, ◌≤◌, ℕ, ◌+◌, if◌then◌else◌, Bool, List, [], ◌∷◌, map}
use Rattle.std.specs.Prelude.{slice_index}
use Rattle.std.specs.List.{flat_map, zip, enumerate_from}
use Rattle.rtcm_bits.specs.Bits.{uint}
use Rattle.rtcm_msg.specs.declared.message.Message.{Message}
use Rattle.rtcm_msg.specs.Messages.{by_message}
use Rattle.rtcm_msg.specs.declared.pairs.Pair.{Pair}
use Rattle.rtcm_msg.specs.declared.entry.Entry.{Entry}
use Rattle.rtcm_msg.specs.Msm.{MsmValue, MasksValue, pair_count, satellite_mask_bits, signal_mask_bits}
use Rattle.rtcm_msg.specs.declared.view.Form.{Form}
use Rattle.rtcm_msg.specs.Forms.{entry, satellite_data, cell_data}

-- The items whose bit is set.
unfoldable pub chosen : {X : Type 0} → List Bool → List X → List X
chosen [] xs = []
chosen (b ∷ bits) [] = []
chosen (b ∷ bits) (x ∷ xs) = if b then x ∷ chosen bits xs else chosen bits xs

-- The indices of the set bits, counted from i.
unfoldable pub up_from : ℕ → List Bool → List ℕ
up_from i [] = []
up_from i (b ∷ bits) = if b then i ∷ up_from (i + 1) bits else up_from (i + 1) bits

-- The IDs of a set of w bits, rising.
abbrev pub ids : ℕ → ℕ → List ℕ
ids w mask = up_from 1 (uint w mask)

-- Each number is at least `low`, at most `high`, and greater than the one before it.
abbrev pub Rising : ℕ → ℕ → List ℕ → Type 0
Rising low high [] = Unit {0}
Rising low high (x ∷ xs) = (low ≤ x) × (x ≤ high) × Rising (x + 1) high xs

-- A satellite, by its index in the set and its ID, with a signal.
abbrev pub pair : ℕ × ℕ → ℕ → Pair
pair x g = record { index = x.0; satellite = x.1; signal = g }

-- All pairs, ordered by satellite, then by signal.
abbrev pub all_pairs : MasksValue → List Pair
all_pairs s =
    flat_map (λ x. map (pair x) (ids signal_mask_bits s.signals))
    (enumerate_from 0 (ids satellite_mask_bits s.satellites))

-- The pairs that have a cell.
abbrev pub cell_pairs : MasksValue → List Pair
cell_pairs s = chosen (uint (pair_count s.satellites s.signals) s.cells) (all_pairs s)

-- Bounds of the values of a cell, with `codes` lock time indicators.
pub record IsEntry (codes : ℕ) (e : Entry) : Type 0 where
  pub range : IfSome e.range (λ r. unsigned_abs r ≤ 2 ^ 39)
  pub phase : IfSome e.phase (λ r. unsigned_abs r ≤ 2 ^ 39)
  pub rate : IfSome e.rate (λ v. unsigned_abs v ≤ 10 ^ 8)
  pub strength : IfSome e.strength (λ s. s < 2 ^ 10)
  pub lock : e.lock < codes

-- The entry of a cell of a message of this form.
abbrev pub entry_in : Form → MsmValue → Pair × ℕ → Entry
entry_in f v x = entry f x.0 (satellite_data f (slice_index v.satellites x.0.index)) (cell_data f x.1)

abbrev pub entries_in : Form → MsmValue → List Entry
entries_in f v = map (entry_in f v) (zip (cell_pairs v.sets) v.cells)

-- The cells of a message in order.
abbrev pub entries : Message → List Entry
entries v = by_message (λ s. []) entries_in (λ n set. []) v
