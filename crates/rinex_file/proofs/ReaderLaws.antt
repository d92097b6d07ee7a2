-- Calls that read, one after the other.
use Rattle.devices.specs.Device.{Device, HasFailed}
use Rattle.rinex_file.specs.Blocks.{LeavesRest, ReadsPrefix}
use Rattle.std.proofs.Common.{List, Option, [], ap, refl, subst, ℕ, ◌++◌, ◌∙◌, ◌≡◌}
use Rattle.std.proofs.KnownBytes.{Consumes-nil, Consumes-trans}
use Rattle.std.specs.Prelude.{Err, Ok, Result}
use Rattle.std.specs.Result.{IsErrAnd}

pub leaves_more : (a b c : Option (List ℕ)) → LeavesRest a b → LeavesRest b c → LeavesRest a c
leaves_more a b c (xs, first) (ys, next) = (xs ++ ys, Consumes-trans a b c xs ys first next)

pub leaves_all : (a : Option (List ℕ)) → LeavesRest a a
leaves_all a = ([], Consumes-nil a)

-- a prefix of the remaining bytes was read, and no call failed
pub record HasReadOn {R : Type 0} (remaining : R → Option (List ℕ)) (r r' : Device R) : Type 0 where
  pub left : LeavesRest (remaining r.inner) (remaining r'.inner)
  pub same : r'.failures ≡ r.failures

pub none_read : {R : Type 0} (remaining : R → Option (List ℕ)) (r : Device R) → HasReadOn remaining r r
none_read remaining r = record { left = leaves_all (remaining r.inner); same = refl }

-- one more call
pub more_read : {A E R : Type 0} {x : A} {fault : E} {remaining : R → Option (List ℕ)} {a b c : Device R} → HasReadOn remaining a b → ReadsPrefix fault (Ok x) remaining b c → HasReadOn remaining a c
more_read {remaining = remaining} {a} {b} {c} before next = record { left = leaves_more (remaining a.inner) (remaining b.inner) (remaining c.inner) before.left next.left; same = next.same (λ e. cc) ∙ before.same }

-- the calls are done, without this fault
pub fine_read : {A E R : Type 0} {fault : E} {remaining : R → Option (List ℕ)} {a b : Device R} (q : Result A E) → (q ≡ Err fault → ⊥) → HasReadOn remaining a b → ReadsPrefix fault q remaining a b
fine_read q other before = record { failed = λ e. absurd (other e); same = λ _. before.same; left = before.left }

-- the call that failed, whose fault is given as another one
pub fault_read : {A B E F R : Type 0} {fault e : E} {given f : F} {remaining : R → Option (List ℕ)} {a b c : Device R} → (e ≡ fault → f ≡ given) → (f ≡ given → e ≡ fault)
    → HasReadOn remaining a b → ReadsPrefix {A = A} fault (Err e) remaining b c → ReadsPrefix {A = B} given (Err f) remaining a c
fault_read {fault = fault} {e} {given} {f} {remaining} {a} {b} {c} to from before next = record {
  failed = λ is. subst (λ (n : ℕ). HasFailed n c.failures) before.same (next.failed (ap Err (from (let same : f ≡ given = cc in same))));
  same = λ other. next.same (λ is. other (ap Err (to (let same : e ≡ fault = cc in same)))) ∙ before.same;
  left = leaves_more (remaining a.inner) (remaining b.inner) (remaining c.inner) before.left next.left;
}

-- the call that failed
pub failed_read : {A B E R : Type 0} {fault e : E} {remaining : R → Option (List ℕ)} {a b c : Device R} (q : Result B E) → IsErrAnd q (λ y. y ≡ e)
    → HasReadOn remaining a b → ReadsPrefix {A = A} fault (Err e) remaining b c → ReadsPrefix fault q remaining a c
failed_read (Ok x) is before next = absurd is
failed_read {fault = fault} {e} (Err y) is before next = fault_read (λ same. is ∙ same) (λ same. let back : e ≡ fault = cc in back) before next
