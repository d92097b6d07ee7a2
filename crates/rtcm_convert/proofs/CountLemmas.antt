-- Each frame is counted once.
use Rattle.rtcm_convert.proofs.ExactLemmas.{outcomes_length}
use Rattle.obs_epoch.specs.declared.taken.Kind.TheVariants as kind
use Rattle.rtcm_convert.proofs.Names.{◌≡◌, ℕ, ◌+◌, List, [], ◌∷◌, ◌++◌, Bool, false, refl, arith, length, Option, Some, None, option_map, count_by, is_none, is_kind, no_counts, Framed, frames_of, Kind, GatherSetup, Heard, is_close_first, kind_of, SetupValue, message_of, messages_of, outcomes_after, report_of, IsCountedOnce, common_steps}

-- the outcome that no frame has
abbrev is_first : Option Kind → Bool
is_first None = false
is_first (Some k) = is_close_first k

abbrev AreDone : List (Option Kind) → Type 0
AreDone [] = Unit {0}
AreDone (o ∷ os) = (is_first o ≡ false) × AreDone os

abbrev Kinds : Type 0
Kinds = (s : GatherSetup) (ms : List Heard) (m : Heard) → is_close_first (kind_of s ms m) ≡ false

heard_done : Kinds → (s : GatherSetup) (ms : List Heard) (o : Option Heard) → is_first (option_map (λ m. kind_of s ms m) o) ≡ false
heard_done kinds s ms o = grind (arith, common_steps)

outcomes_done : Kinds → (s : SetupValue) (before fs : List Framed) → AreDone (outcomes_after s before fs)
outcomes_done kinds s before [] = tt
outcomes_done kinds s before (f ∷ fs) = (heard_done kinds s.gatherer (messages_of s before) (message_of s f), outcomes_done kinds s (before ++ f ∷ []) fs)

all_once : (os : List (Option Kind)) → AreDone os
    → count_by is_none os + (count_by (is_kind kind.Station) os + (count_by (is_kind kind.OtherStation) os + (count_by (is_kind kind.Ignored) os + (count_by (is_kind kind.Late) os + (count_by (is_kind kind.PastWeeks) os + count_by (is_kind (kind.Kept no_counts)) os))))) ≡ length os
all_once [] d = refl
all_once (o ∷ os) d = grind (arith, common_steps, all_once os d.1)

pub counted_once : Kinds → (s : SetupValue) (b : List ℕ) → IsCountedOnce (report_of s b) (length (frames_of b))
counted_once kinds s b = grind (arith, common_steps, outcomes_length, all_once, outcomes_done)
