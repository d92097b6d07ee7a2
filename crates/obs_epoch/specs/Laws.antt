-- Laws of the epochs of a list.
use Rattle.std.specs.Prelude.{ℕ, ◌≡◌, ◌↔◌, ◌+◌, ◌*◌, ◌≤◌, true, false, List, [], ◌++◌, filter, length, None, Some}
use Rattle.std.specs.List.{AllByRecursion}
use Rattle.obs_epoch.specs.Heard.{GatherSetup, Heard}
use Rattle.obs_epoch.specs.Kinds.{is_close_first, kind_of}
use Rattle.rtcm_bits.specs.Prefix.{IsPrefix}
use Rattle.gnss_obs.specs.GatheredEpochs.{TimesRise}
use Rattle.gnss_obs.specs.Values.{Closed}
use Rattle.obs_epoch.specs.declared.choice.Choice.{Choice}
use Rattle.obs_epoch.specs.Choices.{every_epoch, in_window, on_grid}
use Rattle.obs_epoch.specs.Clock.{is_pending}
use Rattle.obs_epoch.specs.Epochs.{closed_so_far}
use Rattle.obs_epoch.specs.Loss.{times}
use Rattle.obs_epoch.specs.Times.{Timed}
use Rattle.obs_epoch.specs.Thinning.{counts_left_out, counts_of_epochs, has_satellite, thin}
use Rattle.obs_epoch.specs.GathererHistory.{closed_epochs, all_epochs, closed_list, whole_list}

-- For every list of later messages, the closed epochs don't change and stay the first ones.
abbrev pub ClosedStay : Type 0
ClosedStay = (s : GatherSetup) (ms more : List Heard) → IsPrefix (closed_epochs s ms) (closed_epochs s (ms ++ more))

-- They are also the first of all epochs at the end.
abbrev pub ClosedComeFirst : Type 0
ClosedComeFirst = (s : GatherSetup) (ms more : List Heard) → IsPrefix (closed_epochs s ms) (all_epochs s (ms ++ more))

-- With the pending epoch, the closed epochs are all epochs.
abbrev pub AllClosed : Type 0
AllClosed = (s : GatherSetup) (xs : List Timed) → closed_so_far s xs (is_pending s xs) ≡ times xs

-- A list without messages has no closed epoch.
abbrev pub NoneClosed : Type 0
NoneClosed = (s : GatherSetup) → closed_epochs s [] ≡ []

-- No message of a list is expected again.
abbrev pub NeverFirst : Type 0
NeverFirst = (s : GatherSetup) (ms : List Heard) (m : Heard) → is_close_first (kind_of s ms m) ≡ false

-- ---- the choice of epochs

-- Without an interval, and with a window that has all times, no epoch is left out and none is marked.
abbrev pub ReturnsEvery : Type 0
ReturnsEvery = (c : Choice) (es : List Closed) → c.interval ≡ None
    → AllByRecursion (λ e. in_window c e.epoch.time ≡ true) es → thin c es ≡ es

-- The time is at most the tolerance before or after a multiple of the interval.
abbrev pub IsNearMultiple : (interval tolerance t : ℕ) → Type 0
IsNearMultiple interval tolerance t =
    (k : ℕ) × (k * interval ≤ t + tolerance) × (t ≤ k * interval + tolerance)

-- Exactly such a time is on the grid of an interval.
abbrev pub IsOnGridNearMultiples : Type 0
IsOnGridNearMultiples = (c : Choice) (interval t : ℕ) → c.interval ≡ Some interval
    → (on_grid c t ≡ true ↔ IsNearMultiple interval c.tolerance t)

abbrev pub with_window : ℕ → ℕ → Choice → Choice
with_window from until c = record c { from = from; until = until }

-- The epochs of a window are those of its two parts, one after the other.
abbrev pub WindowsJoin : Type 0
WindowsJoin = (c : Choice) (from middle until : ℕ) (es : List Closed) → from ≤ middle → middle ≤ until → TimesRise es
    → thin (with_window from until c) es ≡ thin (with_window from middle c) es ++ thin (with_window middle until c) es

-- No time is in both parts.
abbrev pub WindowsAreApart : Type 0
WindowsAreApart = (c : Choice) (from middle until t : ℕ) → in_window (with_window from middle c) t ≡ true
    → in_window (with_window middle until c) t ≡ false

abbrev pub with_every_epoch : GatherSetup → GatherSetup
with_every_epoch s = record s { choice = every_epoch }

-- The choice of every epoch leaves none out.
pub record IsWhole (s : GatherSetup) (ms : List Heard) : Type 0 where
  pub all : all_epochs (with_every_epoch s) ms ≡ whole_list s ms
  pub closed : closed_epochs (with_every_epoch s) ms ≡ closed_list s ms

abbrev pub IsWholeByEvery : Type 0
IsWholeByEvery = (s : GatherSetup) (ms : List Heard) → IsWhole s ms

-- The epochs of a choice are those of every epoch, thinned.
pub record IsThinned (s : GatherSetup) (ms : List Heard) : Type 0 where
  pub all : all_epochs s ms ≡ thin s.choice (all_epochs (with_every_epoch s) ms)
  pub closed : closed_epochs s ms ≡ thin s.choice (closed_epochs (with_every_epoch s) ms)

abbrev pub IsThinnedByChoice : Type 0
IsThinnedByChoice = (s : GatherSetup) (ms : List Heard) → IsThinned s ms

-- If no satellite has a value in a returned epoch, the epochs with a value are those that are left out.
abbrev pub NoneReturned : Type 0
NoneReturned = (c : Choice) (es : List Closed) → length (filter has_satellite (thin c es)) ≡ 0
    → counts_left_out c es ≡ counts_of_epochs c es
