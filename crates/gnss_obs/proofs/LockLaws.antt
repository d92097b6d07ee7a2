-- The test for a loss of lock.
use Rattle.gnss_obs.proofs.Names.{ℕ, ◌≡◌, ◌<◌, ◌≤◌, arith, refl, get_or, ◌+◌, ◌*◌, ◌==◌, ◌||◌, nat_lt, Bool, true, false, Option, Some, None, least4, least7, time_of, times7, passes_at, unless_less, ltb-true, eqb-true}
use Rattle.gnss_obs.specs.declared.lock.TheConstants.{LEAST7}

-- the steps of the indicators, each computed
pub rising4 : (i : ℕ) → i < 15 → least4 i < least4 (i + 1)
rising4 i below = ltb-true _ _ (passes_at (λ j. nat_lt (least4 j) (least4 (j + 1))) 15 i refl below)

pub rising7 : (i : ℕ) → i < 704 → least7 i < least7 (i + 1)
rising7 i below = ltb-true _ _ (passes_at (λ j. nat_lt (least7 j) (least7 (j + 1))) 704 i refl below)

pub counts7 : (i : ℕ) → i ≤ 64 → least7 i ≡ i
counts7 i below = eqb-true _ _ (passes_at (λ j. least7 j == j) 65 i refl (omega (arith, below)))

pub doubles7 : (i : ℕ) → 32 ≤ i → i + 32 ≤ 704 → least7 (i + 32) ≡ 2 * least7 i
doubles7 i above below = eqb-true _ _ (unless_less i 32 _ (passes_at (λ j. nat_lt j 32 || (least7 (j + 32) == 2 * least7 j)) 673 i refl (omega (arith, below))) above)

-- the words of the table are those of the least times
abbrev same_time : Option ℕ → Option ℕ → Bool
same_time None None = true
same_time (Some a) (Some b) = a == b
same_time None (Some b) = false
same_time (Some a) None = false

is_same_time : (s t : Option ℕ) → same_time s t ≡ true → s ≡ t
is_same_time s t h = grind (arith, eqb-true)

pub words7 : (i : ℕ) → i < 706 → time_of (get_or LEAST7 i 0) ≡ (times7 i).least
words7 i below = is_same_time _ _ (passes_at (λ j. same_time (time_of (get_or LEAST7 j 0)) (times7 j).least) 706 i refl below)
