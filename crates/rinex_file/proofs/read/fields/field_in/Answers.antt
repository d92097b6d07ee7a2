-- The columns of a value are blank, or the number of blanks before them gives the template that they must match; a
-- value is read from those that do, and no value's text matches otherwise.
use Rattle.rinex_file.proofs.Fields.Lanes.{lanes_are, lane_is, sixteen_long}
use Rattle.rinex_file.proofs.Fields.Values.{few_before, sixteen_blank}
use Rattle.rinex_file.proofs.OneReading.{no_field, field_once, value_of}
use Rattle.rinex_file.proofs.Names.{common_steps, arith, ◌≡◌, ◌∙◌, ap, ap₂, sym, ℤ, ◌+◌, take, drop, Option, Some, get_or, IfSome, FitsColumns, blanks, field}
use Rattle.rinex_file.proofs.read.fields.field_in.Goals.{After-blanks_in-empty}
use Rattle.rinex_file.proofs.read.fields.field_in.Goals as goal

counted : (c : After-blanks_in-empty) → c.blanks_in-empty.result ≡ blanks (take 16 (drop c.args.at c.args.text.now))
counted c = c.blanks_in-empty.ensures.count ∙ ap blanks (lanes_are c.args.text.now c.args.at)

-- columns that are not blank are those of a value, with its LLI and SSI columns
value : (c : After-blanks_in-empty) → (c.blanks_in-empty.result ≡ 16 → ⊥) → (w : Option ℤ) → IfSome w FitsColumns → take 16 (drop c.args.at c.args.text.now) ≡ field w c.args.lost c.args.strength
    → (v : ℤ) × FitsColumns v × (take 16 (drop c.args.at c.args.text.now) ≡ field (Some v) c.args.lost c.args.strength)
    × (get_or c.args.text.now (c.args.at + 14) 0 ≡ c.args.lost) × (get_or c.args.text.now (c.args.at + 15) 0 ≡ c.args.strength)
value c some w fits is =
    let (v, small, shows, lost, strength) = value_of w _ _ fits is (counted c) some in
    (v, small, shows, sym (lane_is c.args.text.now c.args.at 14 (omega arith)) ∙ lost, sym (lane_is c.args.text.now c.args.at 15 (omega arith)) ∙ strength)

pub returns-then-empty-eq16 : goal.returns-then-empty-eq16
returns-then-empty-eq16 c =
    let blank = sixteen_blank _ _ (sixteen_long c.args.text.now c.args.at c.requires) (counted ((goal.at.returns-then-empty-eq16 c).After-blanks_in-empty)) c.if-empty-eq16.true ∙ no_field c.args.lost c.args.strength in
    (tt, blank, λ w fits is. field_once _ _ c.args.lost c.args.strength fits tt (sym is ∙ blank))

pub returns-else-empty-eq16 : goal.returns-else-empty-eq16
returns-else-empty-eq16 c = λ w fits is.
    let at = (goal.at.returns-else-empty-eq16 c).After-blanks_in-empty in
    let (v, small, shows, lost, strength) = value at c.if-empty-eq16.false w fits is in
    omega (arith, few_before _ v _ _ small shows, counted at, c.if-empty-gt9.true)

pub returns-then-text-at : goal.returns-then-text-at
returns-then-text-at c = λ w fits is.
    let (v, small, shows, lost, strength) = value ((goal.at.returns-then-text-at c).After-blanks_in-empty) (λ all. omega (arith, all, c.if-empty-gt9.false)) w fits is in
    grind (arith, common_steps, c.then-text-at.branch)

pub value_in-requires-clause-sign : goal.value_in-requires-clause-sign
value_in-requires-clause-sign c = grind (arith, c.if-empty-gt9.false, c.blanks_in-empty.ensures.count, lanes_are, lane_is)

pub value_in-requires-clause-first : goal.value_in-requires-clause-first
value_in-requires-clause-first c = grind (arith, common_steps, c.from.ensures, c.if-empty-gt9.false, lanes_are, lane_is)

pub returns-in-Some : goal.returns-in-Some
returns-in-Some c = grind (arith, c.if-text-at.false, c.if-text-at-2.false, c.in-Some.ensures.1, c.in-Some.ensures.0, lanes_are, lane_is, field_once)

pub returns-in-None : goal.returns-in-None
returns-in-None c = λ w fits e.
    let is = lanes_are c.args.text.now c.args.at in
    let (v, small, shows, lost, strength) = value_of w _ _ fits e (counted ((goal.at.returns-in-None c).After-blanks_in-empty)) (λ all. omega (arith, all, c.if-empty-gt9.false)) in
    c.in-None.ensures v small (is ∙ shows ∙ ap₂ (λ a b. field (Some v) a b) (sym (ap (λ r. get_or r 14 0) is ∙ lost)) (sym (ap (λ r. get_or r 15 0) is ∙ strength)))
