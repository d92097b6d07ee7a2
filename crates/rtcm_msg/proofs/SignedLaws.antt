-- Numbers with a sign whose width is changed.
use Rattle.rtcm_msg.proofs.Names.{ℕ, ℤ, ◌≡◌, ◌<◌, ◌≤◌, ◌^◌, arith, to_z, of_z, FitsSigned, to_z-of_z}
use mir.Syntax.{Width}
use mir.Val.{hbits}

abbrev raised : (n a b : ℕ) → n < a → a ≤ b → n < b
raised n a b h k = omega (arith, h, k)

pub wider : (a b : Width) (z : ℤ) → FitsSigned a z → 2 ^ hbits a ≤ 2 ^ hbits b → to_z b (of_z b (to_z a (of_z a z))) ≡ z
wider a b z f h = rw (to_z-of_z a z f) (to_z-of_z b z (record { sfits = raised _ _ _ f.sfits h }))

pub narrower : (a b : Width) (z : ℤ) → FitsSigned b z → 2 ^ hbits b ≤ 2 ^ hbits a → to_z b (of_z b (to_z a (of_z a z))) ≡ z
narrower a b z f h = rw (to_z-of_z a z (record { sfits = raised _ _ _ f.sfits h })) (to_z-of_z b z f)
