-- Lists of a known length, and results that are known.
use Rattle.rtcm_bits.proofs.Names.{◌≡◌, ℕ, Result, Ok, is_ok, if◌then◌else◌, List, [], ◌∷◌, length, get_or, refl, arith}

-- eight bytes, one by one
pub eight_of : (xs : List ℕ) → length xs ≡ 8 → xs ≡ get_or xs 0 0 ∷ get_or xs 1 0 ∷ get_or xs 2 0 ∷ get_or xs 3 0 ∷ get_or xs 4 0 ∷ get_or xs 5 0 ∷ get_or xs 6 0 ∷ get_or xs 7 0 ∷ []
eight_of [] h = absurd (omega (arith, h))
eight_of (a ∷ []) h = absurd (omega (arith, h))
eight_of (a ∷ b ∷ []) h = absurd (omega (arith, h))
eight_of (a ∷ b ∷ c ∷ []) h = absurd (omega (arith, h))
eight_of (a ∷ b ∷ c ∷ d ∷ []) h = absurd (omega (arith, h))
eight_of (a ∷ b ∷ c ∷ d ∷ e ∷ []) h = absurd (omega (arith, h))
eight_of (a ∷ b ∷ c ∷ d ∷ e ∷ f ∷ []) h = absurd (omega (arith, h))
eight_of (a ∷ b ∷ c ∷ d ∷ e ∷ f ∷ g ∷ []) h = absurd (omega (arith, h))
eight_of (a ∷ b ∷ c ∷ d ∷ e ∷ f ∷ g ∷ i ∷ []) h = refl
eight_of (a ∷ b ∷ c ∷ d ∷ e ∷ f ∷ g ∷ i ∷ x ∷ xs) h = absurd (omega (arith, h))

pub when_ok : {A E X : Type 0} {r : Result A E} {u : A} {x a : X} (b : X) → r ≡ Ok u → x ≡ (if is_ok r then a else b) → x ≡ a
when_ok b e h = rw e at h
