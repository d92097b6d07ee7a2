-- The value of a gatherer, and its steps in parts.
use Rattle.std.specs.Prelude.{ℕ, ◌≡◌, ◌==◌, Bool, true, false, nat_lt, List, [], ◌∷◌, if◌then◌else◌, Option, Some, not, ◌&&◌}
use Rattle.std.specs.Prelude.{None, is_some}
use Rattle.std.specs.Option.{option_map_or}
use Rattle.gnss_system.specs.declared.system.System.{System}
use Rattle.gnss_system.specs.declared.system.System.TheVariants.{Gps, Galileo}
use Rattle.gnss_system.specs.Systems.{systems}
use Rattle.gnss_obs.specs.declared.cell.StationValues.{StationValues}
use Rattle.obs_epoch.specs.inner.Held.{CellOutcome, Kept, count_in, no_locks, note_systems, outcome_of}
use Rattle.obs_epoch.specs.GathererAfter.{lookup, GathererValue}
use Rattle.rtcm_msg.specs.declared.entry.Entry.{Entry}
use Rattle.rtcm_msg.specs.declared.view.Form.{Form}
use Rattle.obs_epoch.specs.Heard.{Heard, seen_in}
use Rattle.gnss_obs.specs.HeardCells.{HeardCell, kept_cell}
use Rattle.obs_epoch.specs.Cells.{lacks_channel, no_counts, with_skipped}
use Rattle.gnss_obs.specs.Values.{PlanValue, planned_of, CellLists, Closed, EpochValue, cells_of, cleared, empty_epoch, no_cells, no_values}
use Rattle.gnss_obs.specs.Values.{satellites_written}
use Rattle.obs_epoch.specs.Choices.{in_window, is_chosen, on_grid}
use Rattle.obs_epoch.specs.inner.Marks.{carried_from, carried_to, counted_epoch, no_marks}
use Rattle.obs_epoch.specs.declared.choice.EpochCounts.{EpochCounts}
use Rattle.obs_epoch.specs.declared.parts.Parts.{Parts}
use Rattle.gnss_obs.specs.inner.PlanOrder.{HasPlannedCells}
use Rattle.gnss_system.specs.SystemValues.{with_value_of}
use Rattle.gnss_obs.specs.Plans.{place_in}
use Rattle.gnss_obs.specs.Order.{AreSortedByPlan, insert_by, cell_sort_key}
use Rattle.obs_epoch.specs.Loss.{lli_with}
use Rattle.obs_epoch.specs.Epochs.{values_after_message}
use Rattle.obs_epoch.specs.Clock.{State}
use Rattle.obs_epoch.specs.inner.Step.{step_by, open_by, ended_where, is_same, closed_time}
use Rattle.gnss_obs.specs.declared.cell.Cell.{Cell}
use Rattle.obs_epoch.specs.declared.taken.CellCounts.{CellCounts}

-- ---- the pending epoch, and the one closed last

-- The epoch closed last, whose cells are removed when another one begins.
abbrev pub cleared_if : Bool → Closed → Closed
cleared_if begins last = if begins then cleared last else last

-- The cells are planned, and there are none if no epoch is pending; while one is pending, the epoch closed last has none.
-- An epoch that was just closed is in the order of the plan, and no epoch is pending.
pub record IsGathering (clock : State) (pending : CellLists) (last : Closed) (values : StationValues)
    (just_closed : Bool) : Type 0 where
  pub planned : HasPlannedCells clock.setup.plan pending
  pub none : clock.pending ≡ false → pending ≡ no_cells
  pub empty : clock.pending ≡ true → last.epoch.cells ≡ no_cells
  pub closed : just_closed ≡ true
      → (clock.pending ≡ false) × AreSortedByPlan clock.setup.plan last.epoch × (last.values ≡ values)

-- What a gatherer starts with: no cells, no epoch closed, no lock records and no loss of lock.
pub record AreNew (p : Parts) : Type 0 where
  pub pending : p.pending ≡ no_cells
  pub closed : p.closed ≡ record { epoch = empty_epoch 0; values = no_values }
  pub locks : p.locks ≡ no_locks
  pub marks : p.marks ≡ no_marks

abbrev pub epoch_with : System → EpochValue → List Cell → EpochValue
epoch_with s e cells = record e { cells = with_value_of s e.cells cells }

-- A sorted epoch after one more cell has arrived. A gatherer appends the cell; its value has the epoch sorted.
abbrev pub with_more_in : System → PlanValue → EpochValue → Cell → EpochValue
with_more_in s p e m = epoch_with s e (insert_by (cell_sort_key (planned_of s p)) m (cells_of s e))

abbrev pub with_more : PlanValue → EpochValue → Cell → EpochValue
with_more p e m = with_more_in m.satellite.system p e m

-- ---- the gatherer

-- A cell of a planned signal, before it is kept.
abbrev pub planned_cell : PlanValue → HeardCell → Option Cell
planned_cell p x = if is_some (place_in x.signal (planned_of x.satellite.system p)) then Some (kept_cell x 0) else None

abbrev pub outcome_in : GathererValue → HeardCell → CellOutcome
outcome_in g x = outcome_of g.clock.setup (cells_of x.satellite.system g.epoch) x

abbrev pub hold_by : CellOutcome → GathererValue → HeardCell → GathererValue
hold_by Kept g x =
    record g { epoch = with_more g.clock.setup.plan g.epoch (kept_cell x (lli_with g.epoch.time x (lookup g.locks x))) }
hold_by _ g x = g

-- One more cell.
abbrev pub hold : GathererValue → HeardCell → GathererValue
hold g x = hold_by (outcome_in g x) g x

pub record Loaded : Type 0 where
  pub state : GathererValue
  pub counts : CellCounts

-- No cell of a message was processed yet.
abbrev pub unloaded : GathererValue → Loaded
unloaded g = record { state = g; counts = no_counts }

abbrev pub load_one : Loaded → HeardCell → Loaded
load_one l x = record { state = hold l.state x; counts = count_in (lacks_channel l.state.clock.setup x) (outcome_in l.state x) l.counts }

-- More cells, one by one.
abbrev pub load : Loaded → List HeardCell → Loaded
load l [] = l
load l (x ∷ xs) = load (load_one l x) xs

-- Counts n more skipped cells.
abbrev pub with_unlisted : ℕ → Loaded → Loaded
with_unlisted n l = record { state = l.state; counts = with_skipped n l.counts }

abbrev pub load_entry : Form → System → Loaded → Entry → Loaded
load_entry form system l e =
    option_map_or (load_one l) (seen_in l.state.clock.setup.plan.channels form system e) (with_unlisted 1 l)

-- A system by number: 0 is GPS, 1 Galileo, and any other number a given system.
abbrev pub system_as : ℕ → System → System
system_as number system = if number == 0 then Gps else (if number == 1 then Galileo else system)

-- The entries of a message, one by one.
abbrev pub load_entries : Form → System → Loaded → List Entry → Loaded
load_entries form system l [] = l
load_entries form system l (e ∷ es) = load_entries form system (load_entry form system l e) es

-- The cells of a message.
abbrev pub load_heard : Loaded → Heard → Loaded
load_heard l m = with_unlisted m.unlisted (load l m.cells)

-- The locks of the pending epoch are recorded.
abbrev pub noted : GathererValue → GathererValue
noted g = record g { locks = note_systems g.epoch g.locks systems }

-- The same if the epoch was just closed.
abbrev pub closed_noted : GathererValue → GathererValue
closed_noted g = if g.just_closed then noted g else g

-- ---- a whole message

-- The epoch of the greatest time, without cells if that time is new.
abbrev pub epoch_begun : Option ℕ → GathererValue → GathererValue
epoch_begun before g =
    if is_same before g.clock.latest then g
    else record g { epoch = empty_epoch (option_map_or (λ t. t) g.clock.latest 0) }

-- The cells of a message are kept in the epoch that has begun, if it is accepted.
abbrev pub loaded_where : Bool → GathererValue → Heard → Loaded
loaded_where accepted g m = if accepted then load_heard (unloaded g) m else unloaded g

-- The clock and the station values process the message.
abbrev pub with_time : GathererValue → Heard → GathererValue
with_time g m =
    record g {
      clock = step_by g.clock m;
      values = values_after_message g.clock.setup g.values m;
      just_closed = is_some (closed_time g.clock m);
    }

-- The same before the cells of the message, and before its epoch is closed.
abbrev pub begun_by : GathererValue → Heard → GathererValue
begun_by g m = record (epoch_begun g.clock.latest (with_time g m)) { clock = open_by g.clock m; just_closed = false }

-- The pending epoch is closed, or no epoch.
abbrev pub shut_where : Bool → GathererValue → GathererValue
shut_where closed g = record g { clock = ended_where closed g.clock; just_closed = closed }

-- The last call closed no epoch.
abbrev pub rested : GathererValue → GathererValue
rested g = record g { just_closed = false }

abbrev pub stopped : State → State
stopped c = record c { pending = false }

-- ---- the epoch closed last, which is marked, counted, and returned if it is chosen

abbrev pub counts_with : GathererValue → EpochCounts
counts_with g =
    let c = g.clock.setup.choice in
    if not (is_chosen c g.epoch.time) && nat_lt 0 (satellites_written g.epoch)
    then counted_epoch (in_window c g.epoch.time) (on_grid c g.epoch.time) g.counts else g.counts

abbrev pub carries : GathererValue → Bool
carries g = is_some g.clock.setup.choice.interval

abbrev pub thinned : GathererValue → GathererValue
thinned g =
    let c = g.clock.setup.choice in
    let at = on_grid c g.epoch.time in
    record g {
      epoch = if carries g then carried_to at g.marks g.epoch else g.epoch;
      marks = if carries g then carried_from at g.marks g.epoch else g.marks;
      counts = counts_with g;
      chosen = is_chosen c g.epoch.time;
    }

abbrev pub thinned_if : Bool → GathererValue → GathererValue
thinned_if closed g = if closed then thinned g else g
