-- The faults of a call, by the results that it never has.
use Rattle.rtcm_convert.proofs.Names.{arith, ◌≡◌, ℕ, Bool, true, false, sym, ap, subst, ◌∙◌, Result, Ok, Err, IfErr, false≢true, IsErrOf, OnErr, OnOk, Device, HasFailed, FailsWith, FailsWithWriter, IsSetupFault, IsRunFault, Fault, BadSetup, Memory, Read, TooLong, Write, NoEpoch, NoneChosen, ⊤, common_steps}

abbrev pub of_finish : Fault → Bool
of_finish NoEpoch = true
of_finish (NoneChosen counts) = true
of_finish Write = true
of_finish _ = false

abbrev pub of_pieces : Fault → Bool
of_pieces TooLong = true
of_pieces fault = of_finish fault

abbrev pub of_run : Fault → Bool
of_run Read = true
of_run fault = of_pieces fault

pub run_known : (f : Fault) → IsRunFault f → of_run f ≡ true
run_known f h = grind (arith, common_steps)

pub not_err : {A E : Type 0} (x : A) (e : E) → Ok x ≡ Err e → ⊥
not_err x e h = absurd cc

apart : (test : Fault → Bool) (f g : Fault) → test f ≡ true → test g ≡ false → f ≡ g → ⊥
apart test f g holds fails e = false≢true (sym fails ∙ ap test (sym e) ∙ holds)

-- a call whose faults are of one kind returns no other
module _ {K : Fault → Type 0} {test : Fault → Bool} (L : Fault → Type 0) (known : (f : Fault) → K f → test f ≡ true) where
  pub never : {A : Type 0} (r : Result A Fault) → IfErr r (λ f. K f × L f) → (g : Fault) → test g ≡ false → IsErrOf r g → ⊥
  never r left g fails e = grind (arith, common_steps, not_err, apart)

  not_setup : (f : Fault) → test f ≡ true → test BadSetup ≡ false → test Memory ≡ false → IsSetupFault f → ⊥
  not_setup f holds bad memory h = grind (arith, common_steps, apart)

  pub not_of_setup : {A : Type 0} (P : Type 0) (r : Result A Fault) → IfErr r (λ f. K f × L f) → test BadSetup ≡ false → test Memory ≡ false → IfErr r (λ f. IsSetupFault f → P)
  not_of_setup P r left bad memory = grind (arith, common_steps, not_setup)

-- ---- a call after others that did not fail

pub writer_after : {T A : Type 0} (r : Result A Fault) (old mid new : Device T) → mid.failures ≡ old.failures → mid.widest ≡ old.widest → FailsWithWriter r mid new → FailsWithWriter r old new
writer_after r old mid new e w d = grind (arith, common_steps)

pub fails_after : {T A E : Type 0} (r : Result A E) (old mid new : Device T) → ⊤ × (mid.failures ≡ old.failures) × (mid.widest ≡ old.widest) → FailsWith r mid new → FailsWith r old new
fails_after r old mid new e d = (subst (λ (n : ℕ). OnErr r (HasFailed n new.failures)) e.1 d.0, subst (λ (n : ℕ). OnOk r (new.failures ≡ n)) e.1 d.1, d.2 ∙ e.2)

-- what is known of the fault of a call holds for the one that it returned
pub fault_given : {A : Type 0} (P : Fault → Type 0) (r : Result A Fault) (fault : Fault) → IsErrOf r fault → IfErr r P → P fault
fault_given P r fault is h = grind (arith, common_steps, not_err)
