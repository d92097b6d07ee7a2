use Rattle.rtcm_inspect.proofs.FirstLemmas.{next, one_more}
use Rattle.rtcm_inspect.proofs.Names.{◌≡◌, ◌∙◌, ◌++◌, ◌∷◌, [], sym, ap, arith, refl, List, ℕ, first_two, FirstTwo}
use Rattle.rtcm_inspect.proofs.first_two.FirstTwo.add.Goals as goal

-- the first two after these
after : {x y : FirstTwo} (ns : List ℕ) (n : ℕ) → x ≡ first_two ns → y ≡ next x n → y ≡ first_two (ns ++ n ∷ [])
after ns n before is = is ∙ ap (λ (x : FirstTwo). next x n) before ∙ one_more ns n

pub returns-in-One : goal.returns-in-One
returns-in-One c = λ ns h. after ns c.args.number (sym c.in-One.is ∙ h) (let other = c.if-first-number.true in grind (arith, other))

pub returns-else-first-number : goal.returns-else-first-number
returns-else-first-number c = λ ns h. c.in-One.is ∙ after ns c.args.number (sym c.in-One.is ∙ h) (let same = c.if-first-number.false in grind (arith, same))

pub returns-in-Several : goal.returns-in-Several
returns-in-Several c = λ ns h. c.in-Several.is ∙ after ns c.args.number (sym c.in-Several.is ∙ h) refl
