-- What the first messages contain, after one more frame.
use Rattle.rtcm_inspect.proofs.Names.{Unknown, FirstTwo, if◌then◌else◌, ◌≡◌, ◌∙◌, ◌==◌, ◌++◌, ℕ, List, [], ◌∷◌, Option, None, ap, arith, option_and_then, option_or, find-append, Framed, Heard, first_in, first_two, One, Several}

pub or_more : {A : Type 0} (a b c : Option A) → option_or a (option_or b c) ≡ option_or (option_or a b) c
or_more a b c = grind arith

pub or_none : {A : Type 0} (a : Option A) → option_or a None ≡ a
or_none a = grind arith

-- one more frame
pub first_more : {A : Type 0} (read : List ℕ → Option Heard) (has : Heard → Option A) (fs : List Framed) (f : Framed) → first_in read has (fs ++ f ∷ []) ≡ option_or (first_in read has fs) (option_and_then has (read f.message))
first_more read has [] f = or_none (option_and_then has (read f.message))
first_more read has (g ∷ fs) f = ap (option_or (option_and_then has (read g.message))) (first_more read has fs f) ∙ or_more (option_and_then has (read g.message)) (first_in read has fs) (option_and_then has (read f.message))

-- ---- one more station

-- the stations after one more
abbrev pub next : FirstTwo → ℕ → FirstTwo
next Unknown n = One n
next (One a) n = if n == a then One a else Several a n
next (Several a b) n = Several a b

pub one_more : (ns : List ℕ) (n : ℕ) → next (first_two ns) n ≡ first_two (ns ++ n ∷ [])
one_more ns n = grind (arith, find-append)
