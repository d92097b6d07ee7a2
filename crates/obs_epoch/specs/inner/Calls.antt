-- The result of a call of a gatherer, for every setup and history.
use Rattle.std.specs.Prelude.{ℕ, ◌≡◌, true, false, List, [], ◌∷◌, ◌++◌, length, Option, Some, None, is_some}
use Rattle.gnss_system.specs.declared.system.System.{System}
use Rattle.obs_epoch.specs.declared.taken.Kind.{Kind}
use Rattle.obs_epoch.specs.declared.taken.Taken.{Taken}
use Rattle.obs_epoch.specs.Heard.{GatherSetup, Heard}
use Rattle.gnss_obs.specs.Values.{Closed, cells_of}
use Rattle.obs_epoch.specs.Times.{timed}
use Rattle.obs_epoch.specs.Cells.{firsts}
use Rattle.obs_epoch.specs.Epochs.{closed_so_far}
use Rattle.obs_epoch.specs.Clock.{closes_first}
use Rattle.obs_epoch.specs.GathererAfter.{GathererValue, held_at, locked_in}
use Rattle.obs_epoch.specs.Kinds.{is_close_first, kind_of}
use Rattle.obs_epoch.specs.GathererHistory.{HasGatheredEpochs, IsAwaited, closed_so_far_of, returned_epoch, closed_in}
use Rattle.obs_epoch.specs.GathererHistory.{is_done, capped_counts}
use Rattle.obs_epoch.specs.Thinning.{counts_left_out}
use Rattle.obs_epoch.specs.declared.choice.EpochCounts.{EpochCounts}

-- The kind is `CloseFirst` exactly if an epoch is pending and the message's time is greater and within the weeks.
abbrev pub IsCloseFirstExactly : GathererValue → Heard → Kind → Type 0
IsCloseFirstExactly old m kind =
    (s : GatherSetup) (ms : List Heard) (es : List Closed) → HasGatheredEpochs old s ms es None
    → is_close_first kind ≡ closes_first s (timed s ms) m

-- If the pending epoch is closed first, it is returned, and the message is expected again.
abbrev pub AwaitsMessage : GathererValue → GathererValue → Heard → Kind → Type 0
AwaitsMessage old new m kind =
    (s : GatherSetup) (ms : List Heard) (es : List Closed) → HasGatheredEpochs old s ms es None
    → is_close_first kind ≡ true → HasGatheredEpochs new s ms (es ++ returned_epoch new) (Some m)

-- If the message is processed, it comes after the others, and the epoch that it closes is returned after the others.
abbrev pub GathersMessage : GathererValue → GathererValue → Heard → Kind → Type 0
GathersMessage old new m kind =
    (s : GatherSetup) (ms : List Heard) (es : List Closed) (again : Option Heard) → HasGatheredEpochs old s ms es again
    → IsAwaited again m → is_close_first kind ≡ false
    → HasGatheredEpochs new s (ms ++ m ∷ []) (es ++ returned_epoch new) None

-- If the message is processed, the kind is its outcome after the others.
abbrev pub IsKindOfProcessed : GathererValue → Heard → Kind → Type 0
IsKindOfProcessed old m kind =
    (s : GatherSetup) (ms : List Heard) (es : List Closed) (again : Option Heard) → HasGatheredEpochs old s ms es again
    → IsAwaited again m → is_close_first kind ≡ false → kind ≡ kind_of s ms m

-- A message that is expected again is processed.
abbrev pub TakesAwaited : GathererValue → Heard → Kind → Type 0
TakesAwaited old m kind =
    (s : GatherSetup) (ms : List Heard) (es : List Closed) → HasGatheredEpochs old s ms es (Some m)
    → is_close_first kind ≡ false

-- The result of a call with a message: the pending epoch is closed first exactly if the message's time is greater and
-- within the weeks, and then the message is expected again; every other message is processed, and the epoch that it
-- closes is returned.
pub record TakesMessage (old new : GathererValue) (m : Heard) (answer : Taken) : Type 0 where
  pub exactly : IsCloseFirstExactly old m answer.kind
  pub first : AwaitsMessage old new m answer.kind
  pub again : TakesAwaited old m answer.kind
  pub taken : GathersMessage old new m answer.kind
  pub kind : IsKindOfProcessed old m answer.kind
  pub closed : answer.closed ≡ is_some (closed_in new)
  pub going : new.has_ended ≡ false

-- `end` closes the pending epoch.
abbrev pub EndsPendingEpoch : GathererValue → GathererValue → Type 0
EndsPendingEpoch old new =
    (s : GatherSetup) (ms : List Heard) (es : List Closed) → HasGatheredEpochs old s ms es None → old.has_ended ≡ false
    → HasGatheredEpochs new s ms (es ++ returned_epoch new) None

-- A gatherer that has ended keeps its messages and epochs.
abbrev pub StaysEnded : GathererValue → GathererValue → Type 0
StaysEnded old new =
    (s : GatherSetup) (ms : List Heard) (es : List Closed) (again : Option Heard) → HasGatheredEpochs old s ms es again
    → old.has_ended ≡ true → HasGatheredEpochs new s ms es again

-- The number of kept cells of the system in the epoch of the greatest time.
abbrev pub HoldsCells : GathererValue → System → ℕ → Type 0
HoldsCells now system count =
    (s : GatherSetup) (ms : List Heard) (es : List Closed) (again : Option Heard) → HasGatheredEpochs now s ms es again
    → count ≡ length (cells_of system (held_at s (timed s ms)))

-- The numbers of the closed epochs that are not chosen and in which a satellite has a value.
abbrev pub CountsEpochs : GathererValue → EpochCounts → Type 0
CountsEpochs now counts =
    (s : GatherSetup) (ms : List Heard) (es : List Closed) (again : Option Heard) → HasGatheredEpochs now s ms es again
    → counts ≡ capped_counts (counts_left_out s.choice (closed_so_far_of now s ms again))

-- The number of keys of the locked cells of the closed epochs.
abbrev pub HoldsLockedKeys : GathererValue → ℕ → Type 0
HoldsLockedKeys now count =
    (s : GatherSetup) (ms : List Heard) (es : List Closed) (again : Option Heard) → HasGatheredEpochs now s ms es again
    → count ≡ length (firsts (locked_in s (timed s ms) (closed_so_far s (timed s ms) (is_done now s ms again))))
