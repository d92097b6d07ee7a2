-- The history of a gatherer: its messages, the epochs that it returned, and a message that is expected again.
use Rattle.std.specs.Prelude.{ℕ, ◌≡◌, ◌&&◌, ◌||◌, Bool, true, List, [], ◌∷◌, ◌++◌, map, if◌then◌else◌, Option, Some}
use Rattle.std.specs.Prelude.{None, is_some, option_to_list, false, get_or, length}
use Rattle.std.specs.Option.{IfSome, option_map_or}
use Rattle.rtcm_bits.specs.Prefix.{IsPrefix}
use Rattle.gnss_obs.specs.declared.cell.StationValues.{StationValues}
use Rattle.obs_epoch.specs.Heard.{GatherSetup, Heard}
use Rattle.gnss_obs.specs.Values.{EpochValue, PlanValue, Closed}
use Rattle.obs_epoch.specs.Times.{timed}
use Rattle.obs_epoch.specs.Loss.{times}
use Rattle.obs_epoch.specs.Epochs.{epoch_at, is_shut, closed_times, closed_so_far, values_of}
use Rattle.obs_epoch.specs.Thinning.{counts_left_out, thin, lost_before, up_to_most}
use Rattle.obs_epoch.specs.Clock.{is_pending, closes_first}
use Rattle.obs_epoch.specs.GathererAfter.{GathererValue, HasTakenMessages, lock_place, most_locks}
use Rattle.gnss_obs.specs.declared.cell.Cell.{Cell}
use Rattle.gnss_obs.specs.HeardCells.{heard_cell}
use Rattle.obs_epoch.specs.declared.choice.Choice.{Choice}
use Rattle.obs_epoch.specs.declared.choice.EpochCounts.{EpochCounts}
use Rattle.obs_epoch.specs.Cells.{has_listed_key}

abbrev pub is_lost_in : List Bool → Cell → Bool
is_lost_in marks x = get_or marks (lock_place (heard_cell x)) false

-- The entries are those of these epochs.
pub record AreMarks (c : Choice) (marks : List Bool) (es : List Closed) : Type 0 where
  pub size : length marks ≡ most_locks
  pub each : (x : Cell) → has_listed_key (heard_cell x) ≡ true → is_lost_in marks x ≡ lost_before c es x

-- The counts are those of these epochs.
abbrev pub capped_counts : EpochCounts → EpochCounts
capped_counts n =
    record { epochs = up_to_most n.epochs; window = up_to_most n.window; grid = up_to_most n.grid }

-- ---- the epochs of a list of messages

-- The earlier messages, and the later ones before the message that closes the epoch of time t.
abbrev pub open_after : GatherSetup → ℕ → List Heard → List Heard → List Heard
open_after s t earlier [] = earlier
open_after s t earlier (m ∷ ms) =
    if is_shut s (timed s (earlier ++ m ∷ [])) t then earlier else open_after s t (earlier ++ m ∷ []) ms

-- The messages before the one that closes the epoch of time t.
abbrev pub before_closing : GatherSetup → ℕ → List Heard → List Heard
before_closing s t ms = open_after s t [] ms

-- The epoch of time t, with the station values that were known when it was closed.
abbrev pub closed_at : GatherSetup → List Heard → ℕ → Closed
closed_at s ms t = record { epoch = (epoch_at s (timed s ms) t); values = values_of s (before_closing s t ms) }

abbrev pub closed_list_at : GatherSetup → List Heard → List ℕ → List Closed
closed_list_at s ms ts = map (closed_at s ms) ts

-- The epochs that are closed within the list, chosen or not.
abbrev pub closed_list : GatherSetup → List Heard → List Closed
closed_list s ms = closed_list_at s ms (closed_times s (timed s ms))

-- All epochs of a list, chosen or not, when its end closed the last one.
abbrev pub whole_list : GatherSetup → List Heard → List Closed
whole_list s ms = closed_list_at s ms (times (timed s ms))

-- The chosen ones of the epochs that are closed within the list.
abbrev pub closed_epochs : GatherSetup → List Heard → List Closed
closed_epochs s ms = thin s.choice (closed_list s ms)

-- The chosen ones of all epochs of a list, when its end closed the last one.
abbrev pub all_epochs : GatherSetup → List Heard → List Closed
all_epochs s ms = thin s.choice (whole_list s ms)

abbrev pub known_epochs : Bool → GatherSetup → List Heard → List Closed
known_epochs has_ended s ms = if has_ended then all_epochs s ms else closed_epochs s ms

-- ---- the gatherer

-- The planned signals of a gatherer.
abbrev pub plan_in : GathererValue → PlanValue
plan_in v = v.clock.setup.plan

-- The epoch that the last call closed, if it is chosen.
abbrev pub closed_in : GathererValue → Option EpochValue
closed_in v = if v.just_closed && v.chosen then Some (v.epoch) else None

-- The epoch with these station values, if there is one.
abbrev pub closed_by : Option EpochValue → StationValues → List Closed
closed_by e values = option_map_or (λ epoch. record { epoch = epoch; values = values } ∷ []) e []

-- The epoch that the last call returned, if any.
abbrev pub returned_epoch : GathererValue → List Closed
returned_epoch v = closed_by (closed_in v) v.values

-- The pending epoch was closed after the last message: for a message that is expected again, or by `end`.
abbrev pub is_done : GathererValue → GatherSetup → List Heard → Option Heard → Bool
is_done v s ms again = is_some again || (v.has_ended && is_pending s (timed s ms))

-- The epochs that were closed so far, chosen or not.
abbrev pub closed_so_far_of : GathererValue → GatherSetup → List Heard → Option Heard → List Closed
closed_so_far_of v s ms again = closed_list_at s ms (closed_so_far s (timed s ms) (is_done v s ms again))

-- The message is the one that is expected again, if there is one.
abbrev pub IsAwaited : Option Heard → Heard → Type 0
IsAwaited again m = IfSome again (λ awaited. m ≡ awaited)

-- The gatherer has processed these messages, has returned these epochs, and expects the message `again`, if any.
pub record HasGatheredEpochs (v : GathererValue) (s : GatherSetup) (ms : List Heard) (es : List Closed)
    (again : Option Heard) : Type 0 where
  pub standing : HasTakenMessages v s ms (is_done v s ms again)
  pub returned : es ≡ thin s.choice (closed_so_far_of v s ms again)
  pub epochs : again ≡ None → es ≡ known_epochs v.has_ended s ms
  pub first : IsPrefix es (known_epochs v.has_ended s (ms ++ option_to_list again))
  pub fits : IfSome again (λ m. closes_first s (timed s ms) m ≡ true)
  pub plan : v.clock.setup.plan ≡ s.plan
  pub marks : AreMarks s.choice v.marks (closed_so_far_of v s ms again)
  pub counts : v.counts ≡ capped_counts (counts_left_out s.choice (closed_so_far_of v s ms again))
