-- Fractions rounded to whole numbers.
use Rattle.std.specs.Prelude.{◌≡◌, ℕ, ℤ, pos, negsuc, ◌+◌, ◌*◌, ◌/◌, ◌<◌, ◌≤◌, ◌*ℤ◌, ◌-ℤ◌, unsigned_abs, Option, Some}
use Rattle.std.specs.Prelude.{None}

-- t is nearest to a / q; of two nearest numbers it is the one further from zero
pub record IsNearest (a : ℤ) (q : ℕ) (t : ℤ) : Type 0 where
  pub near : 2 * unsigned_abs ((t *ℤ pos q) -ℤ a) ≤ q
  pub tie : 2 * unsigned_abs ((t *ℤ pos q) -ℤ a) ≡ q → unsigned_abs a < unsigned_abs (t *ℤ pos q)

-- there is a value exactly if there is an input; it is then nearest to `above` of the input divided by q
abbrev pub IsRounded : {A : Type 0} → (A → ℤ) → ℕ → Option A → Option ℤ → Type 0
IsRounded above q None None = Unit {0}
IsRounded above q None (Some t) = ⊥
IsRounded above q (Some x) None = ⊥
IsRounded above q (Some x) (Some t) = IsNearest (above x) q t

-- n / q rounded to the nearest whole number, ties up
abbrev pub nearest_size : ℕ → ℕ → ℕ
nearest_size n q = (2 * n + q) / (2 * q)

-- the whole number nearest to a / q
abbrev pub nearest : ℤ → ℕ → ℤ
nearest (pos n) q = pos (nearest_size n q)
nearest (negsuc n) q = pos 0 -ℤ pos (nearest_size (n + 1) q)
