-- Facts of numbers below a bound, computed one by one.
use Rattle.std.proofs.Common.{ℕ, zero, suc, ◌≡◌, ◌<◌, ◌≤◌, Bool, true, false, ◌&&◌, ◌||◌, nat_lt, nat_eq, arith}
use Rattle.std.proofs.lemmas.Grind.{common_steps}

-- a test passes at each number below n
abbrev pub passes_below : (ℕ → Bool) → ℕ → Bool
passes_below test zero = true
passes_below test (suc n) = test n && passes_below test n

pub passes_at : (test : ℕ → Bool) (n i : ℕ) → passes_below test n ≡ true → i < n → test i ≡ true
passes_at test zero i all below = absurd (omega (arith, below))
passes_at test (suc n) i all below = grind (arith, common_steps, passes_at test n i)

-- the tests of numbers
pub unless_less : (a b : ℕ) (other : Bool) → (nat_lt a b || other) ≡ true → b ≤ a → other ≡ true
unless_less a b other h above = let no : nat_lt a b ≡ false = grind (arith, above) in rw no at h

pub flip_false : (a b : ℕ) → nat_eq a b ≡ false → nat_eq b a ≡ false
flip_false a b h = grind (arith, h)
