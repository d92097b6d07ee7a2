use Rattle.rtcm_msg.proofs.Names.{ℕ, ℤ, pos, ◌≡◌, ◌==◌, ◌∙◌, sym, ap, ◌*ℤ◌, ◌≤◌, ◌^◌, Bool, not, if◌then◌else◌, Option, Some, None, arith, w32, w64, to_z, of_z, FitsSigned, lit<, lit≤, ints, to_z-of_z, fits_signed_mul, then_some, int_eq, same_from_decides, Decides-like, Decides-eqb, Decides-int_eq}
use Rattle.rtcm_msg.proofs.SignedLaws.{wider}
use Rattle.rtcm_msg.proofs.meaning.scaled.Goals as goal

whole : (k : ℕ) → k ≤ 128 → to_z w64 k ≡ pos k
whole k h = omega (arith, ints, h)

product_fits : (z : ℤ) (k : ℕ) → FitsSigned w32 z → k ≤ 128 → FitsSigned w64 (z *ℤ pos k)
product_fits z k f h = fits_signed_mul w64 z (pos k) (2 ^ 31) 128 (omega (arith, ints, f)) h (lit< tt)

product_is : (z : ℤ) (k : ℕ) → FitsSigned w32 z → k ≤ 128
    → to_z w64 (of_z w64 (to_z w64 (of_z w64 (to_z w32 (of_z w32 z))) *ℤ to_z w64 k)) ≡ z *ℤ pos k
product_is z k f h = rw (wider w32 w64 z f (lit≤ tt), whole k h) (to_z-of_z w64 (z *ℤ pos k) (product_fits z k f h))

picked : (o : Option ℤ) (b d : Bool) (v w : ℤ) → o ≡ then_some (not b) v → b ≡ d → v ≡ w
    → o ≡ (if d then None else Some w)
picked o b d v w e f g = grind (arith, e, f, g)

same : (z y : ℤ) → FitsSigned w32 z → FitsSigned w32 y → (of_z w32 z == of_z w32 y) ≡ int_eq z y
same z y f g =
    let back : of_z w32 z ≡ of_z w32 y → z ≡ y = λ e. sym (to_z-of_z w32 z f) ∙ (ap (to_z w32) e ∙ to_z-of_z w32 y g) in
    same_from_decides _ _ (Decides-like _ back (ap (of_z w32)) (Decides-eqb _ _)) (Decides-int_eq z y)

pub returns-clause-value : goal.returns-clause-value
returns-clause-value c =
    picked _ _ _ _ _ c.then_some.ensures (same c.args.number c.args.invalid c.ranges.number c.ranges.invalid)
    (product_is c.args.number c.args.unit c.ranges.number c.requires.few)
