-- The value of a gatherer after a list of messages.
use Rattle.std.specs.Prelude.{ℕ, ◌≡◌, Bool, true, List, filter, flat_map, length, if◌then◌else◌, Option, ◌+◌, ◌-◌, ◌*◌}
use Rattle.std.specs.Prelude.{get_or, count_by, None, is_some}
use Rattle.std.specs.Option.{option_map_or}
use Rattle.gnss_system.specs.Systems.{systems}
use Rattle.obs_epoch.specs.Heard.{GatherSetup, Heard}
use Rattle.gnss_obs.specs.HeardCells.{HeardCell}
use Rattle.obs_epoch.specs.Times.{Timed, greatest_time, timed}
use Rattle.obs_epoch.specs.Cells.{cells_at, is_among, firsts, has_listed_key}
use Rattle.obs_epoch.specs.Loss.{is_locked, latest_in}
use Rattle.obs_epoch.specs.Epochs.{epoch_at, closed_so_far, values_of}
use Rattle.obs_epoch.specs.Clock.{HasHeardMessages, State}
use Rattle.gnss_system.specs.declared.system.System.{System}
use Rattle.gnss_obs.specs.Values.{EpochValue, cells_of, empty_epoch, CellLists, Closed}
use Rattle.gnss_obs.specs.declared.cell.StationValues.{StationValues}
use Rattle.obs_epoch.specs.declared.choice.EpochCounts.{EpochCounts}
use Rattle.gnss_obs.specs.Arriving.{sorted_lists}
use Rattle.obs_epoch.specs.declared.locks.KnownLock.{KnownLock}
use Rattle.gnss_system.specs.Signals.{table, first_key, key_count}

-- The greatest time, 0 before the first.
abbrev pub time_in : State → ℕ
time_in g = option_map_or (λ t. t) g.latest 0

abbrev pub most_locks : ℕ
most_locks = key_count

-- The index of the entry of a key.
abbrev pub lock_place_in : System → ℕ → ℕ → ℕ
lock_place_in system id index = first_key system + (length (table system) * (id - 1) + index)

abbrev pub lock_place : HeardCell → ℕ
lock_place x = lock_place_in x.satellite.system x.satellite.id x.signal.index

-- The record of a key.
abbrev pub lookup : List (Option KnownLock) → HeardCell → Option KnownLock
lookup locks key = if has_listed_key key then get_or locks (lock_place key) None else None

-- The number of keys that have a record.
abbrev pub recorded : List (Option KnownLock) → ℕ
recorded locks = count_by is_some locks

-- Exactly the keys of these cells have records.
pub record TracksLocks (locks : List (Option KnownLock)) (noted : List HeardCell) : Type 0 where
  pub has : (key : HeardCell) → is_some (lookup locks key) ≡ is_among noted key
  pub count : recorded locks ≡ length (firsts noted)
  pub size : length locks ≡ most_locks

-- The pending epoch, its cells sorted; if none is pending, the one closed last.
abbrev pub epoch_in : State → CellLists → Closed → EpochValue
epoch_in clock pending last =
    if clock.pending then record { time = time_in clock; cells = sorted_lists clock.setup.plan pending } else last.epoch

pub record GathererValue : Type 0 where
  pub clock : State
  pub epoch : EpochValue
  pub locks : List (Option KnownLock)
  pub marks : List Bool
  pub counts : EpochCounts
  pub chosen : Bool
  pub values : StationValues
  pub just_closed : Bool
  pub has_ended : Bool

-- The locked cells of the epochs of these times.
abbrev pub locked_in : GatherSetup → List Timed → List ℕ → List HeardCell
locked_in s xs ts = flat_map (λ t. filter is_locked (flat_map (cells_at s t xs) systems)) ts

-- The epoch of the greatest time.
abbrev pub held_at : GatherSetup → List Timed → EpochValue
held_at s xs = option_map_or (epoch_at s xs) (greatest_time xs) (empty_epoch 0)

-- The lock records are the latest locks of their keys in the epochs of these times, one record for each key.
pub record Locked (g : GathererValue) (s : GatherSetup) (xs : List Timed) (ts : List ℕ) : Type 0 where
  pub found : (key : HeardCell) → lookup g.locks key ≡ latest_in s xs ts key
  pub tracks : TracksLocks g.locks (locked_in s xs ts)

-- The same number of cells of each system.
abbrev pub HasAsManyCells : EpochValue → EpochValue → Type 0
HasAsManyCells e f = (system : System) → length (cells_of system e) ≡ length (cells_of system f)

-- The gatherer has processed these messages; if `shut`, the pending epoch was closed after the last of them. The cells of
-- a closed epoch may have been marked.
pub record HasTakenMessages (g : GathererValue) (s : GatherSetup) (ms : List Heard) (shut : Bool) : Type 0 where
  pub clock : HasHeardMessages g.clock s ms shut
  pub epoch : g.clock.pending ≡ true → g.epoch ≡ held_at s (timed s ms)
  pub sizes : HasAsManyCells g.epoch (held_at s (timed s ms))
  pub locks : Locked g s (timed s ms) (closed_so_far s (timed s ms) shut)
  pub values : g.values ≡ values_of s ms
