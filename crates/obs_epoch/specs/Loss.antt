-- Loss of lock indicators.
use Rattle.std.specs.Prelude.{ℕ, ◌+◌, ◌-◌, ◌&&◌, Bool, false, nat_lt, List, [], ◌∷◌, filter, filter_map, find}
use Rattle.std.specs.Prelude.{unwrap_or, if◌then◌else◌, Option, Some, None, is_some, option_and_then}
use Rattle.std.specs.Option.{option_map_or}
use Rattle.gnss_obs.specs.LockTimes.{lost}
use Rattle.obs_epoch.specs.Heard.{GatherSetup}
use Rattle.gnss_obs.specs.HeardCells.{HeardCell, has_same_key}
use Rattle.obs_epoch.specs.Times.{Timed}
use Rattle.obs_epoch.specs.Cells.{cells_at}
use Rattle.obs_epoch.specs.declared.locks.KnownLock.{KnownLock}

-- The cell has a valid phase and a known lock.
abbrev pub is_locked : HeardCell → Bool
is_locked x = is_some x.l && is_some x.lock.least

-- The times of the accepted messages, each once, in the order of their first messages.
abbrev pub times : List Timed → List ℕ
times [] = []
times (x ∷ xs) = option_map_or (λ t. t ∷ filter (λ u. nat_lt t u) (times xs)) x.time (times xs)

-- The lock of a cell of time t, if it is locked.
abbrev pub lock_of : ℕ → HeardCell → Option KnownLock
lock_of t x = if is_locked x then Some (record { time = t; lock = x.lock }) else None

-- The lock of the kept cell of that key at time t, if it is locked.
abbrev pub locked_at : GatherSetup → List Timed → HeardCell → ℕ → Option KnownLock
locked_at s xs key t = option_and_then (lock_of t) (find (has_same_key key) (cells_at s t xs key.satellite.system))

abbrev pub last_of : {A : Type 0} → List A → Option A
last_of [] = None
last_of (x ∷ xs) = Some (unwrap_or (last_of xs) x)

-- The lock of the latest locked cell of that key in the epochs of these times.
abbrev pub latest_in : GatherSetup → List Timed → List ℕ → HeardCell → Option KnownLock
latest_in s xs ts key = last_of (filter_map (locked_at s xs key) ts)

-- The same for the epochs before time t.
abbrev pub previous : GatherSetup → List Timed → ℕ → HeardCell → Option KnownLock
previous s xs t key = latest_in s xs (filter (λ u. nat_lt u t) (times xs)) key

-- Lock was lost since the latest earlier locked cell of the key; false if there is none.
abbrev pub has_lost : ℕ → HeardCell → Option KnownLock → Bool
has_lost t x before = option_map_or (λ was. lost was.lock.least x.lock.least x.lock.upper (t - was.time)) before false

abbrev pub lli_with : ℕ → HeardCell → Option KnownLock → ℕ
lli_with t x before =
    if is_some x.l then (if has_lost t x before then 1 else 0) + (if x.half_cycle then 2 else 0) else 0

-- The loss of lock indicator of a kept cell of the epoch of time t: 1 if lock was lost, plus 2 for a half cycle.
abbrev pub lli_of : GatherSetup → List Timed → ℕ → HeardCell → ℕ
lli_of s xs t x = lli_with t x (previous s xs t x)
