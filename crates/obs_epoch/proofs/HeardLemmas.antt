-- A step of the clock, when the epoch that it closes is still pending.
use Rattle.obs_epoch.proofs.Names.{◌≡◌, true, ◌||◌, ◌&&◌, arith, Option, is_some, ℕ, Heard, KeepsEpoch, State, ends_epoch, ended_where, open_by, is_accepted, is_close_first, is_same, kind_by, no_counts, step_by, closed_time, common_steps}

-- A pending epoch has a time.
abbrev pub IsKnown : State → Type 0
IsKnown g = g.pending ≡ true → is_some g.latest ≡ true

pub keeps : (g : State) (m : Heard) → IsKnown g → KeepsEpoch g (open_by g m)
keeps g m known = grind (arith, common_steps)

-- An accepted message's epoch is pending, and so is one that is to be closed.
pub opens : (g : State) (m : Heard) → is_accepted (kind_by g no_counts m) ≡ true → (open_by g m).pending ≡ true
opens g m accepted = grind (arith, common_steps, accepted)

pub closes_open : (g : State) (m : Heard) → is_some (closed_time g m) ≡ true → (open_by g m).pending ≡ true
closes_open g m closes = grind (arith, common_steps, closes)

-- The epoch is closed exactly if the time is later, or the message ends the pending epoch; the step is done when it is.
pub closes : (g : State) (m : Heard) → IsKnown g
    → (is_close_first (kind_by g no_counts m) || (ends_epoch g.setup m && (open_by g m).pending)) ≡ is_some (closed_time g m)
closes g m known = grind (arith, common_steps, known)

pub done : (g : State) (m : Heard) → IsKnown g → ended_where (is_some (closed_time g m)) (open_by g m) ≡ step_by g m
done g m known = grind (arith, common_steps, known)

-- It is the step, but for an epoch that is still pending.
pub heard_step : (g : State) (m : Heard) → open_by g m ≡ record (step_by g m) { pending = (open_by g m).pending }
heard_step g m = grind (arith, common_steps)

pub same_itself : (l : Option ℕ) → is_same l l ≡ true
same_itself l = grind (arith, common_steps)
