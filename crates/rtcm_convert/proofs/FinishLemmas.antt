-- The end of the stream, after calls that did not fail.
use Rattle.rtcm_convert.proofs.Names.{arith, common_steps, max, FailsWithReader, IsFinishFault, IsSentAfter, ◌≡◌, ℕ, ◌≤◌, List, true, false, Result, IfErr, IsErrOf, Device, Fault, longest_frame}
use Rattle.rtcm_convert.proofs.FaultLemmas.{never, of_finish}

finish_known : (f : Fault) → IsFinishFault f → of_finish f ≡ true
finish_known f h = grind (arith, common_steps, of_finish)

-- it returns no other fault
pub not_of_finish : {A : Type 0} (L : Fault → Type 0) (r : Result A Fault) → IfErr r (λ f. IsFinishFault f × L f) → (g : Fault) → of_finish g ≡ false → IsErrOf r g → ⊥
not_of_finish L r left g fails e = never L finish_known r left g fails e

pub left_after : {A : Type 0} (K L : Fault → Type 0) (r : Result A Fault) → ((f : Fault) → IsFinishFault f → K f) → IfErr r (λ f. IsFinishFault f × L f) → IfErr r (λ f. K f × L f)
left_after K L r more left = grind (arith, common_steps)

pub sent_after : {A : Type 0} (L : Fault → Type 0) (r : Result A Fault) (mid old new : List ℕ) → IfErr r (λ f. IsFinishFault f × L f) → IsSentAfter r mid new → IsSentAfter r old new
sent_after L r mid old new left h = grind (arith, common_steps)

pub reader_after : {T A : Type 0} (L : Fault → Type 0) (r : Result A Fault) (old new : Device T) → IfErr r (λ f. IsFinishFault f × L f) → new.failures ≡ old.failures → new.widest ≤ max old.widest longest_frame → FailsWithReader r old new
reader_after L r old new left same within = grind (arith, common_steps)
