-- The kept cells and the lock records, and one step of each.
use Rattle.std.specs.Prelude.{[], ℕ, ◌+◌, ◌≡◌, List, ◌∷◌, length, set, replicate}
use Rattle.std.specs.Prelude.{Bool, fold, if◌then◌else◌, Option, Some, None}
use Rattle.std.specs.Option.{option_map_or}
use Rattle.gnss_system.specs.declared.system.System.{System}
use Rattle.gnss_obs.specs.Values.{EpochValue, cells_of}
use Rattle.gnss_system.specs.Signals.{table}
use Rattle.gnss_obs.specs.declared.cell.Cell.{Cell}
use Rattle.obs_epoch.specs.Heard.{GatherSetup}
use Rattle.gnss_obs.specs.HeardCells.{HeardCell, heard_cell}
use Rattle.obs_epoch.specs.Cells.{is_planned}
use Rattle.obs_epoch.specs.Loss.{lock_of}
use Rattle.obs_epoch.specs.declared.locks.KnownLock.{KnownLock}
use Rattle.obs_epoch.specs.declared.locks.Keys.{Keys}
use Rattle.obs_epoch.specs.declared.taken.CellCounts.{CellCounts}
use Rattle.gnss_obs.specs.inner.PlanOrder.{is_held}
use Rattle.gnss_obs.specs.inner.Arriving.{outcome_by}
use Rattle.gnss_obs.specs.declared.epoch_cells.Added.{Added}
use Rattle.gnss_obs.specs.declared.epoch_cells.Added.TheVariants as added
use Rattle.obs_epoch.specs.GathererAfter.{most_locks, lock_place_in, lock_place}

-- ---- lock records: an entry for each key, system after system

-- No key has a record.
abbrev pub no_locks : List (Option KnownLock)
no_locks = replicate most_locks None

-- These are the entries of the keys of a system: they begin at the first one, and each satellite has that many.
abbrev pub AreKeysOf : System → Keys → Type 0
AreKeysOf system keys = (keys.first ≡ lock_place_in system 1 0) × (keys.signals ≡ length (table system))

abbrev pub put : List (Option KnownLock) → HeardCell → KnownLock → List (Option KnownLock)
put locks x l = set locks (lock_place x) (Some l)

-- Records the lock of a kept cell of time t, if it is locked.
abbrev pub note : ℕ → List (Option KnownLock) → HeardCell → List (Option KnownLock)
note t locks x = option_map_or (put locks x) (lock_of t x) locks

abbrev pub note_all : ℕ → List (Option KnownLock) → List Cell → List (Option KnownLock)
note_all t locks [] = locks
note_all t locks (m ∷ ms) = note_all t (note t locks (heard_cell m)) ms

-- Records the locks of the cells of an epoch, one system after the other.
abbrev pub note_systems : EpochValue → List (Option KnownLock) → List System → List (Option KnownLock)
note_systems e locks systems = fold (λ l s. note_all e.time l (cells_of s e)) locks systems

-- ---- cells: the first of each key, up to the largest number of kept cells

-- The outcome of a cell.
pub data CellOutcome : Type 0 where
  Skipped : CellOutcome
  Repeated : CellOutcome
  Crowded : CellOutcome
  Kept : CellOutcome

-- The outcome of a planned cell that was added.
abbrev pub outcome_of_added : Added → CellOutcome
outcome_of_added added.Kept = Kept
outcome_of_added added.Repeated = Repeated
outcome_of_added added.Crowded = Crowded

abbrev pub outcome_of : GatherSetup → List Cell → HeardCell → CellOutcome
outcome_of s ms x =
    if is_planned s x then outcome_of_added (outcome_by (is_held ms x) (length ms)) else Skipped

-- One more cell, which has a channel or lacks it.
abbrev pub count_in : Bool → CellOutcome → CellCounts → CellCounts
count_in lacks Kept n = record n { kept = n.kept + 1; without_channel = n.without_channel + (if lacks then 1 else 0) }
count_in lacks Skipped n = record n { skipped = n.skipped + 1 }
count_in lacks Repeated n = record n { repeated = n.repeated + 1 }
count_in lacks Crowded n = record n { crowded = n.crowded + 1 }
