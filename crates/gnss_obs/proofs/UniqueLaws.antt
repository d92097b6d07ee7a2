-- The nearest whole number is unique.
use Rattle.gnss_obs.proofs.Names.{ℕ, suc, ℤ, pos, ◌≡◌, ◌+◌, ◌*◌, ◌<◌, ◌≤◌, ◌-ℤ◌, ◌+ℤ◌, ◌*ℤ◌, ◌<ℤ◌, ◌≤ℤ◌, unsigned_abs, arith, ◌⊎◌, inl, inr, ints, mul-le, IsNearest}

more : (m n q : ℕ) → m < n → m * q + q ≤ n * q
more m n q h = let p : suc m * q ≤ n * q = mul-le (suc m) q n q (omega (arith, h)) (omega arith) in omega (arith, p)

-- multiples of q are q apart
apart : (t u : ℤ) (q : ℕ) → t <ℤ u → ((t *ℤ pos q) +ℤ pos q) ≤ℤ (u *ℤ pos q)
apart t u q h = grind (arith, ints, more)

order : (t u : ℤ) → (t ≡ u) ⊎ ((t <ℤ u) ⊎ (u <ℤ t))
order t u = grind (arith, ints)

-- x is at most half of q from a, and if it is exactly half, further from zero.
record IsClose (a : ℤ) (q : ℕ) (x : ℤ) : Type 0 where
  near : 2 * unsigned_abs (x -ℤ a) ≤ q
  tie : 2 * unsigned_abs (x -ℤ a) ≡ q → unsigned_abs a < unsigned_abs x

-- x and y are adjacent and a is halfway: only one of them is further from zero than a

one_side : (t u a : ℤ) (q : ℕ) → 0 < q → t <ℤ u → IsNearest a q t → IsNearest a q u → ⊥
one_side t u a q some less p r = grind (arith, ints, apart, order)

pub one_nearest : (a : ℤ) (q : ℕ) (t u : ℤ) → 0 < q → IsNearest a q t → IsNearest a q u → t ≡ u
one_nearest a q t u some p r = elim (order t u) [
  | inl e ↦ e
  | inr s ↦ elim s [ inl less ↦ absurd (one_side t u a q some less p r) | inr more ↦ absurd (one_side u t a q some more r p) ]
]
