-- The range of the values of a message.
use Rattle.gnss_obs.proofs.Names.{ℕ, ℤ, ◌≡◌, ◌^◌, ◌<◌, ◌≤◌, unsigned_abs, arith, w64, to_z, of_z, ints, most_hertz, nearest_pseudorange, nearest_phase, common_steps}

-- ---- values

pub cycles_small : (hertz : ℕ) (p : ℤ) → hertz ≤ most_hertz → unsigned_abs p ≤ 2 ^ 39 → unsigned_abs (nearest_phase hertz p) < 10 ^ 12
cycles_small hertz p within h = grind (arith, common_steps)

pub metres_small : (r : ℤ) → unsigned_abs r ≤ 2 ^ 40 → unsigned_abs (nearest_pseudorange r) < 10 ^ 12
metres_small r h = grind (arith, common_steps)

-- ---- the arguments of a rounding

-- A range or a phase range is unchanged by a cast.
pub kept : (x : ℤ) → unsigned_abs x ≤ 2 ^ 39 → to_z w64 (of_z w64 x) ≡ x
kept x h = omega (arith, ints, h)
