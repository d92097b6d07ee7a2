use Rattle.rtcm_msg.proofs.Names.{common_steps, ℤ, pos, ◌≡◌, ◌*ℤ◌, ◌+ℤ◌, arith, w16, w32, to_z, of_z, FitsSigned, lit≤, ints, to_z-of_z}
use Rattle.rtcm_msg.proofs.BoundsLaws.{rough_rate_small, fine_rate_small}
use Rattle.rtcm_msg.proofs.SignedLaws.{wider}
use Rattle.rtcm_msg.proofs.view.Form.rate.Goals as goal

product_fits : (s : ℤ) → FitsSigned w16 s → FitsSigned w32 (s *ℤ pos 10000)
product_fits s f = omega (arith, ints, f)

sum_fits : (s c : ℤ) → FitsSigned w16 s → FitsSigned w16 c → FitsSigned w32 ((s *ℤ pos 10000) +ℤ c)
sum_fits s c f g = omega (arith, ints, f, g)

sum_is : (s c : ℤ) → FitsSigned w16 s → FitsSigned w16 c
    → to_z w32 (of_z w32 (to_z w32 (of_z w32 (to_z w32 (of_z w32 (to_z w16 (of_z w16 s))) *ℤ pos 10000)) +ℤ to_z w32 (of_z w32 (to_z w16 (of_z w16 c))))) ≡ (s *ℤ pos 10000) +ℤ c
sum_is s c f g = rw (wider w16 w32 s f (lit≤ tt), wider w16 w32 c g (lit≤ tt), to_z-of_z w32 (s *ℤ pos 10000) (product_fits s f)) (to_z-of_z w32 ((s *ℤ pos 10000) +ℤ c) (sum_fits s c f g))

pub returns-clause-bound : goal.returns-clause-bound
returns-clause-bound c = grind (arith, common_steps, sum_is, rough_rate_small, fine_rate_small, ints)
