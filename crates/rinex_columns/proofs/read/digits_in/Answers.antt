use Rattle.rinex_columns.proofs.Names.{arith, ◌^◌, ◌≤◌, ◌<◌, ℕ, pow-le-pow_right, common_steps}
use Rattle.rinex_columns.proofs.read.digits_in.Goals as goal

below : (n i : ℕ) → n < 10 ^ i → i ≤ 18 → n < 10 ^ 18
below n i small few = let ten : 0 < 10 = omega arith in omega (arith, small, pow-le-pow_right {n = 10} ten {i = i} {j = 18} few)

pub overflow_mul-number : goal.overflow_mul-number
overflow_mul-number c = let h = below c.loop-b.number c.loop-b.b-index c.loop-b.invariant.bound (omega arith) in omega (arith, h)

pub overflow_add-number : goal.overflow_add-number
overflow_add-number c = let h = below c.loop-b.number c.loop-b.b-index c.loop-b.invariant.bound (omega arith) in omega (arith, h)

pub returns-clause-bound : goal.returns-clause-bound
returns-clause-bound c = below c.loop-b.number c.loop-b.b-index c.loop-b.invariant.bound (omega arith)

pub loop-b-preserved : goal.loop-b-preserved
loop-b-preserved c = grind (arith, common_steps)

pub returns-clause-value : goal.returns-clause-value
returns-clause-value c = grind (arith, common_steps)
