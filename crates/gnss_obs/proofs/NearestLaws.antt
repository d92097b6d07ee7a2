-- Rounding a product.
use Rattle.gnss_obs.proofs.Names.{ℕ, ℤ, pos, ◌≡◌, ◌+◌, ◌*◌, ◌/◌, ◌<◌, ◌≤◌, ◌-ℤ◌, ◌*ℤ◌, ◌<ℤ◌, ◌≤ℤ◌, unsigned_abs, arith, negsuc-*ℤ-pos, ints, unsigned_abs-mul, Option, option_map, IsNearest, IsRounded, nearest, nearest_size, common_steps}

-- the distance of the product from the fraction
pub size_bounds : (n q : ℕ) → 0 < q → (2 * (nearest_size n q * q) ≤ 2 * n + q) × (2 * n + q < 2 * (nearest_size n q * q) + 2 * q)
size_bounds n q some = grind (arith, common_steps)

-- the difference of two numbers, by its size

-- the product with a number turned negative
mirrored : (t q : ℕ) → (pos 0 -ℤ pos t) *ℤ pos q ≡ pos 0 -ℤ pos (t * q)
mirrored t q = grind arith

pub nearest_is : (a : ℤ) (q : ℕ) → 0 < q → IsNearest a q (nearest a q)
nearest_is a q some = grind (arith, common_steps, size_bounds, mirrored)

pub rounded : {A : Type 0} (above : A → ℤ) (q : ℕ) (x : Option A) → 0 < q → IsRounded above q x (option_map (λ a. nearest (above a) q) x)
rounded above q x some = grind (arith, nearest_is)

-- the size of a quotient by an even number
halved : (n h : ℕ) → nearest_size n (2 * h) ≡ (n + h) / (2 * h)
halved n h = grind (arith, common_steps)

-- the number nearest to a product
pub nearest_below : (x : ℤ) (f h : ℕ) → x <ℤ pos 0 → 0 < f → nearest (x *ℤ pos f) (2 * h) ≡ pos 0 -ℤ pos ((unsigned_abs x * f + h) / (2 * h))
nearest_below x f h neg some = grind (arith, common_steps, unsigned_abs-mul, halved, negsuc-*ℤ-pos)

pub nearest_above : (x : ℤ) (f h : ℕ) → pos 0 ≤ℤ x → nearest (x *ℤ pos f) (2 * h) ≡ pos ((unsigned_abs x * f + h) / (2 * h))
nearest_above x f h up = grind (arith, halved, ints)
