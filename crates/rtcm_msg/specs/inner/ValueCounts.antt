-- The number of cells with a value, by signal.
use Rattle.std.specs.Prelude.{◌≡◌, ℕ, ◌+◌, ◌-◌, ◌/◌, ◌^◌, ◌<◌, ◌≤◌, ◌==◌, ◌&&◌, Bool, List, length, map, drop, filter}
use Rattle.std.specs.Prelude.{slice_index, count_ones}
use Rattle.std.specs.List.{zip, list_any}
use Rattle.rtcm_bits.specs.Bits.{odd}
use Rattle.rtcm_msg.specs.declared.entry.Entry.{Entry}
use Rattle.rtcm_msg.specs.declared.pairs.CellsLeft.{CellsLeft}
use Rattle.rtcm_msg.specs.Msm.{signal_mask_bits, satellite_mask_bits}
use Rattle.rtcm_msg.specs.inner.Pairs.{cell_pairs_left, AreLeft}
use Rattle.rtcm_msg.specs.inner.Presences.{has_value}
use Rattle.rtcm_msg.specs.Entries.{entry_in}
use Rattle.rtcm_msg.specs.Forms.{FormedMsm}

-- The satellite is in the set, whose most significant of 64 bits is ID 1.
abbrev pub is_in : ℕ → ℕ → Bool
is_in set id = odd (set / 2 ^ (satellite_mask_bits - id))

-- The cell has a value, and its satellite is in the set.
abbrev pub has_listed_value : ℕ → Entry → Bool
has_listed_value set e = is_in set e.satellite && has_value e

-- The number of cells of a signal that have a value and whose satellite is in the set.
abbrev pub value_count : ℕ → ℕ → List Entry → ℕ
value_count set signal es = length (filter (λ e. has_listed_value set e && (e.signal == signal)) es)

-- The ID is in the list.
abbrev pub has_id : ℕ → List ℕ → Bool
has_id id ids = list_any (λ x. x == id) ids

-- The IDs of the signals that are left, and the number of cells of each signal, at the index below its ID.
pub record SignalCounts : Type 0 where
  pub left : List ℕ
  pub counts : List ℕ

-- ---- the cells that are left

abbrev pub entries_left : FormedMsm → CellsLeft → List Entry
entries_left v c =
    map (entry_in v.form v.msm) (zip (cell_pairs_left c.left v.msm.sets c.pairs) (drop c.next v.msm.cells))

pub record AreCells (v : FormedMsm) (c : CellsLeft) : Type 0 where
  pub left : AreLeft (count_ones v.msm.sets.satellites) c.left c.pairs
  pub next : length (cell_pairs_left c.left v.msm.sets c.pairs) + c.next ≡ length v.msm.cells

-- Each count is at most n.
abbrev pub AreAtMost : ℕ → List ℕ → Type 0
AreAtMost n counts = (i : ℕ) → slice_index counts i ≤ n

-- To the counts, each at the index below the signal ID, those cells were added that are no longer left.
abbrev pub AddsCounts : ℕ → (old new : List ℕ) → (all left : List Entry) → Type 0
AddsCounts set old new all left =
    (i : ℕ) → i < signal_mask_bits
    → slice_index old i + value_count set (i + 1) all ≡ slice_index new i + value_count set (i + 1) left
