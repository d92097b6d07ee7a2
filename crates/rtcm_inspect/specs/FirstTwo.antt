-- The first of a list of numbers, and the first one that differs from it.
use Rattle.std.specs.Prelude.{ℕ, ◌==◌, not, List, [], ◌∷◌, find, Option, Some, None}
use Rattle.rtcm_inspect.specs.declared.first_two.FirstTwo.{FirstTwo}
use Rattle.rtcm_inspect.specs.declared.first_two.FirstTwo.TheVariants.{Unknown, One, Several}

-- none, one, or the first and the first other one
abbrev pub with_other : ℕ → Option ℕ → FirstTwo
with_other a None = One a
with_other a (Some b) = Several a b

abbrev pub first_two : List ℕ → FirstTwo
first_two [] = Unknown
first_two (a ∷ ns) = with_other a (find (λ n. not (n == a)) ns)

-- the first one
abbrev pub first_of : FirstTwo → Option ℕ
first_of Unknown = None
first_of (One a) = Some a
first_of (Several a b) = Some a
