-- The value of a gatherer: with one more cell, after a message, and when its epoch is closed.
use Rattle.obs_epoch.proofs.Names.{◌≡◌, ℕ, ◌+◌, Bool, true, false, List, ◌∷◌, map, refl, sym, ap, ◌∙◌, subst, arith, length, Option, is_some, if◌then◌else◌, All, All-nil, All-push, System, Cell, EpochValue, PlanValue, planned_of, cells_of, CellLists, Closed, KeepsEpoch, KnownLock, place_in, is_planned, GatherSetup, Heard, IsKey, HeardCell, kept_cell, lookup, outcome_of_added, values_after_message, StationValues, is_held, GathererValue, with_more, outcome_in, hold, begun_by, HasPlannedCells, IsPlanned, empty_epoch, epoch_in, open_by, is_same, no_cells, time_in, Added, IsAdded, cells_after, epoch_with, sorted_epoch, State, lli_with, AreSortedByPlan, cell_sort_key, carried_to, mark_if, value_of, each_after, value_tabulated, same_after, cleared_if, beq, list_any-IsPermutation, length_permutation, sort_moves, common_steps, []}
use Rattle.obs_epoch.specs.declared.choice.EpochCounts.{EpochCounts}
use mathlib.Core.Bool.{not}
use Rattle.obs_epoch.proofs.HeardLemmas.{heard_step}
use Rattle.gnss_obs.specs.declared.epoch_cells.Added.TheVariants as added

-- ---- one more cell

-- A listed cell of a signal that has an index in the plan is planned.
pub planned_is : (s : GatherSetup) (x : HeardCell) → IsKey x → is_some (place_in x.signal (planned_of x.satellite.system s.plan)) ≡ true → is_planned s x ≡ true
planned_is s x key h = grind (arith, common_steps)

-- ---- cells as they arrive

held_any : (system : System) (p : PlanValue) (e : EpochValue) (x : HeardCell) → is_held (cells_of system (sorted_epoch p e)) x ≡ is_held (cells_of system e) x
held_any system p e x = grind (arith, common_steps, value_tabulated, list_any-IsPermutation, sort_moves)

pub count_same : (system : System) (p : PlanValue) (e : EpochValue) → length (cells_of system (sorted_epoch p e)) ≡ length (cells_of system e)
count_same system p e = grind (arith, common_steps, value_tabulated, length_permutation, sort_moves)

with_same : (system : System) (e : EpochValue) → epoch_with system e (cells_of system e) ≡ e
with_same system e = ap (λ cells. record { time = e.time; cells = cells }) (same_after system e.cells)

-- The value after a cell that arrives, by its outcome.
abbrev epoch_after : Added → PlanValue → EpochValue → Cell → EpochValue
epoch_after added.Kept p e m = with_more p e m
epoch_after _ p e m = e

pub sorted_after : (k : Added) (p : PlanValue) (e : EpochValue) (m : Cell)
    → sorted_epoch p (epoch_with m.satellite.system e (cells_after k (cells_of m.satellite.system e) m)) ≡ epoch_after k p (sorted_epoch p e) m
sorted_after k p e m = grind (arith, common_steps, with_same)

-- A cell that arrives is held.
pub held_is : (g : GathererValue) {e : EpochValue} {new : CellLists} (x : HeardCell) {lli : ℕ} {k : Added} → g.epoch ≡ sorted_epoch g.clock.setup.plan e → is_planned g.clock.setup x ≡ true
    → lli ≡ lli_with g.epoch.time x (lookup g.locks x) → IsAdded e.cells (kept_cell x lli) k new → record g { epoch = sorted_epoch g.clock.setup.plan (record e { cells = new }) } ≡ hold g x
held_is g {e} x {lli} {k} is planned mark added = grind (arith, sorted_after, held_any, count_same)

pub outcome_is : (g : GathererValue) {e : EpochValue} {new : CellLists} (x : HeardCell) (lli : ℕ) {k : Added} → g.epoch ≡ sorted_epoch g.clock.setup.plan e → is_planned g.clock.setup x ≡ true
    → IsAdded e.cells (kept_cell x lli) k new → outcome_of_added k ≡ outcome_in g x
outcome_is g {e} x lli is planned added = ap outcome_of_added added.outcome ∙ sym (grind (arith, common_steps, held_any, count_same))

-- The cells are still planned.
pub planned_added : (p : PlanValue) (old new : CellLists) (x : Cell) {k : Added} → IsPlanned (planned_of x.satellite.system p) x → HasPlannedCells p old → IsAdded old x k new → HasPlannedCells p new
planned_added p old new x {k} own h a =
    subst (HasPlannedCells p) (sym a.lists)
    (each_after (λ s cells. All (IsPlanned (planned_of s p)) cells) x.satellite.system old (cells_after k (value_of x.satellite.system old) x) h (by k)) where
      by : (k : Added) → All (IsPlanned (planned_of x.satellite.system p)) (cells_after k (value_of x.satellite.system old) x)
      by added.Kept = All-push (IsPlanned (planned_of x.satellite.system p)) (value_of x.satellite.system old) x (h x.satellite.system) own
      by added.Repeated = h x.satellite.system
      by added.Crowded = h x.satellite.system

pub none_planned : (p : PlanValue) → HasPlannedCells p no_cells
none_planned p = λ s. subst (All (IsPlanned (planned_of s p))) (sym (value_tabulated s (λ c. []))) (All-nil (IsPlanned (planned_of s p)))

pub heard_setup : (g : State) (m : Heard) → (open_by g m).setup ≡ g.setup
heard_setup g m = grind (arith, common_steps)

-- ---- the value of the gatherer

-- The value of a gatherer with these parts inside.
abbrev pub gathered_of : State → CellLists → Closed → StationValues → List (Option KnownLock) → List Bool → EpochCounts → Bool → Bool → Bool → GathererValue
gathered_of clock pending closed values locks marks counts chosen just_closed has_ended =
    record { clock = clock; epoch = epoch_in clock pending closed; locks = locks; marks = marks; counts = counts; chosen = chosen; values = values; just_closed = just_closed; has_ended = has_ended }

abbrev pub open_epoch : State → CellLists → EpochValue
open_epoch clock pending = record { time = time_in clock; cells = pending }

-- The epoch while one is pending, and while none is.
pub open_is : (clock : State) (pending : CellLists) (closed : Closed) → clock.pending ≡ true → epoch_in clock pending closed ≡ sorted_epoch clock.setup.plan (open_epoch clock pending)
open_is clock pending closed e = ap (λ b. if b then sorted_epoch clock.setup.plan (open_epoch clock pending) else closed.epoch) e

pub shut_is : (clock : State) (pending : CellLists) (closed : Closed) → clock.pending ≡ false → epoch_in clock pending closed ≡ closed.epoch
shut_is clock pending closed e = ap (λ b. if b then sorted_epoch clock.setup.plan (open_epoch clock pending) else closed.epoch) e

-- The held cells are those of one epoch, as the pending one or the one closed last has none.
pub count_held : (system : System) (clock : State) (pending : CellLists) (closed : Closed) → (clock.pending ≡ false → pending ≡ no_cells) → (clock.pending ≡ true → closed.epoch.cells ≡ no_cells)
    → length (value_of system pending) + length (cells_of system closed.epoch) ≡ length (cells_of system (epoch_in clock pending closed))
count_held system clock pending closed none empty = grind (arith, count_same system clock.setup.plan (open_epoch clock pending))

-- A marked epoch is in the same order.
map_keys : (f : Cell → Bool) (planned : List ℕ) (xs : List Cell) → map (cell_sort_key planned) (map (mark_if f) xs) ≡ map (cell_sort_key planned) xs
map_keys f planned [] = refl
map_keys f planned (x ∷ xs) = grind (arith, map_keys f planned xs)

pub sorted_carried : (p : PlanValue) (has_interval on_grid : Bool) (marks : List Bool) (e : EpochValue) → AreSortedByPlan p e → AreSortedByPlan p (if has_interval then carried_to on_grid marks e else e)
sorted_carried p has_interval on_grid marks e h = grind (arith, value_tabulated, map_keys)

-- While an epoch is pending, the one closed last has no cells.
pub begins_empty : (was is : Bool) (last : Closed) → (was ≡ true → last.epoch.cells ≡ no_cells) → is ≡ true → (cleared_if (not (beq is was)) last).epoch.cells ≡ no_cells
begins_empty was is last empty e = grind arith

-- The epoch is the same if another one begins, whose cells are not those of the one closed last.
pub clears_none : {old new : State} (pending : CellLists) (last : Closed) → KeepsEpoch old new
    → epoch_in new pending (cleared_if (not (beq new.pending old.pending)) last) ≡ epoch_in new pending last
clears_none {old} {new} pending last keeps = grind (arith, common_steps)

-- An epoch that begins has no cells.
begins : (old new : State) (pending : CellLists) (closed : Closed) → KeepsEpoch old new → new.setup ≡ old.setup → (old.pending ≡ false → pending ≡ no_cells)
    → epoch_in new pending closed ≡ (if is_same old.latest new.latest then epoch_in old pending closed else empty_epoch (time_in new))
begins old new pending closed keeps setup none = grind (arith, common_steps)

abbrev parts : GathererValue → State → EpochValue → StationValues → GathererValue
parts g clock e values = record { clock = clock; epoch = e; locks = g.locks; marks = g.marks; counts = g.counts; chosen = g.chosen; values = values; just_closed = false; has_ended = g.has_ended }

-- The value after the time and the station values of a message.
pub heard_is : (g : GathererValue) {clock : State} {pending : CellLists} (closed : Closed) {values : StationValues} (m : Heard) → g.epoch ≡ epoch_in g.clock pending closed → clock ≡ open_by g.clock m
    → KeepsEpoch g.clock clock → (g.clock.pending ≡ false → pending ≡ no_cells) → values ≡ values_after_message g.clock.setup g.values m
    → parts g clock (epoch_in clock pending closed) values ≡ begun_by g m
heard_is g {clock} {pending} closed {values} m epoch is keeps none given = grind (arith, common_steps, begins, heard_setup, heard_step)
