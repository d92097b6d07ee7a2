use Rattle.rtcm_msg.proofs.Names.{common_steps, ℕ, ℤ, pos, ◌≡◌, ◌+◌, ◌*◌, ◌^◌, ◌<◌, ◌≤◌, ◌+ℤ◌, unsigned_abs, arith, w64, to_z, of_z, FitsSigned, ints}
use Rattle.rtcm_msg.proofs.meaning.range_joined.Goals as goal

abbrev rough : ℕ → ℕ → ℕ
rough w f = w * 2147483648 + f * 2097152

part_is : (z : ℤ) → unsigned_abs z ≤ 2 ^ 38 → to_z w64 (of_z w64 z) ≡ z
part_is z h = omega (arith, ints, h)

rough_is : (w f : ℕ) → w < 256 → f < 65536 → to_z w64 (rough w f) ≡ pos (rough w f)
rough_is w f a b = omega (arith, ints, a, b)

sum_fits : (w f : ℕ) (z : ℤ) → w < 256 → f < 65536 → unsigned_abs z ≤ 2 ^ 38 → FitsSigned w64 (to_z w64 (rough w f) +ℤ to_z w64 (of_z w64 z))
sum_fits w f z a b h = rw (part_is z h, rough_is w f a b) (omega (arith, ints, a, b, h))

sum_is : (w f : ℕ) (z : ℤ) → w < 256 → f < 65536 → unsigned_abs z ≤ 2 ^ 38 → to_z w64 (of_z w64 (to_z w64 (rough w f) +ℤ to_z w64 (of_z w64 z))) ≡ pos (rough w f) +ℤ z
sum_is w f z a b h = rw (part_is z h, rough_is w f a b) (omega (arith, ints, a, b, h))

pub overflow_add-result-2 : goal.overflow_add-result-2
overflow_add-result-2 c = grind (arith, common_steps, sum_fits)

pub returns-clause-value : goal.returns-clause-value
returns-clause-value c = grind (arith, common_steps, sum_is)

pub returns-clause-bound : goal.returns-clause-bound
returns-clause-bound c = grind (arith, common_steps, sum_is, ints)
