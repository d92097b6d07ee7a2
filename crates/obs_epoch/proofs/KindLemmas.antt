-- The outcome of a message: whether it is expected again.
use Rattle.obs_epoch.proofs.Names.{◌≡◌, true, false, List, ap, ◌∙◌, subst, arith, Option, Some, None, is_some, GatherSetup, Heard, Closed, timed, State, closes_first, kind_by, is_close_first, kind_of, with_counts, no_counts, GathererValue, take_step, HasTakenMessages, HasGatheredEpochs, IsAwaited, CellCounts, common_steps}
use Rattle.obs_epoch.proofs.TakeLemmas.{taken, not_first}
use Rattle.obs_epoch.proofs.ReturnedLemmas.{not_done}

-- The counts are only in the outcome of an accepted message.
pub counted_kind : (g : State) (n : CellCounts) (m : Heard) → with_counts n (kind_by g no_counts m) ≡ kind_by g n m
counted_kind g n m = grind (arith, common_steps)

standing_of : (g : GathererValue) (s : GatherSetup) (ms : List Heard) (es : List Closed) (again : Option Heard) → HasGatheredEpochs g s ms es again → g.has_ended ≡ false → HasTakenMessages g s ms (is_some again)
standing_of g s ms es again h going = subst (HasTakenMessages g s ms) (not_done g s ms again going) h.standing

-- The message is expected again exactly if it closes an epoch first.
pub exactly_first : {g : GathererValue} {s : GatherSetup} {ms : List Heard} {es : List Closed} (m : Heard) (n : CellCounts) → HasGatheredEpochs g s ms es None → g.has_ended ≡ false
    → (closes_first s (timed s ms) m ≡ true → m.point ≡ None) → is_close_first (kind_by g.clock n m) ≡ closes_first s (timed s ms) m
exactly_first {g} {s} {ms} {es} m n h going point = grind arith

-- A message that is expected again is processed.
pub again_taken : {g : GathererValue} {s : GatherSetup} {ms : List Heard} {es : List Closed} {m : Heard} (n : CellCounts) → HasGatheredEpochs g s ms es (Some m) → g.has_ended ≡ false
    → is_close_first (kind_by g.clock n m) ≡ false
again_taken {g} {s} {ms} {es} {m} n h going = ap is_close_first ((taken g s ms m true (standing_of g s ms es (Some m) h going) h.fits).kind n) ∙ not_first s (timed s ms) n m

-- A message that is processed is the one expected again, or closes no epoch first.
pub fits_now : {g : GathererValue} {s : GatherSetup} {ms : List Heard} {es : List Closed} (again : Option Heard) (m : Heard) (n : CellCounts) → HasGatheredEpochs g s ms es again → g.has_ended ≡ false
    → (closes_first s (timed s ms) m ≡ true → m.point ≡ None) → IsAwaited again m → is_close_first (kind_by g.clock n m) ≡ false
    → closes_first s (timed s ms) m ≡ is_some again
fits_now {s} {ms} again m n h going point fit other = grind (arith, exactly_first)

pub kind_taken : {g : GathererValue} {s : GatherSetup} {ms : List Heard} {es : List Closed} {again : Option Heard} (m : Heard) → HasGatheredEpochs g s ms es again → g.has_ended ≡ false
    → closes_first s (timed s ms) m ≡ is_some again → kind_by g.clock (take_step g m).counts m ≡ kind_of s ms m
kind_taken {g} {s} {ms} {es} {again} m h going early = grind (arith, taken g s ms m (is_some again) (standing_of g s ms es again h going) early)
