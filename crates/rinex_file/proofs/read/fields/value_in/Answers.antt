-- Columns that are not digits, begin with a zero too many, or are a negative zero are no value's text; else they are
-- the text of the value of their digits.
use Rattle.rinex_file.proofs.Fields.Lanes.{bytes_below, taken}
use Rattle.rinex_file.proofs.Fields.Values.{AreColumns, Begins, IsShown, IsValue, shown, value_is, within, no_zero, no_zero_first, first_is, within_nine, zero_first}
use Rattle.rinex_file.proofs.Fields.Templates.{front}
use Rattle.rinex_file.proofs.OneReading.{value_once}
use Rattle.rinex_file.proofs.Rows.Sizes.{stays}
use Rattle.rinex_file.proofs.Names.{refused, zip2, arith, ◌≡◌, ◌∙◌, ap, sym, subst, ℤ, ◌+◌, ◌≤◌, ◌<◌, take, true, to_z, of_z, w64, Some, slice_index, if◌then◌else◌, get_or, FitsColumns, blanks, field, leading}
use Rattle.rinex_file.proofs.read.fields.value_in.Goals.{After-template, Start, else-first-eq48, then-first-eq48+else-start-lt9+else-negative, else-negative-via-then-negative+else-size-eq0, else-negative-via-else-negative}
use Rattle.rinex_file.proofs.read.fields.value_in.Goals as goal

-- the digits that are left of the columns of a value
left : (c : After-template) (v : ℤ) → FitsColumns v → c.args.columns ≡ field (Some v) (slice_index c.args.columns 14) (slice_index c.args.columns 15)
    → IsShown (zip2 taken c.args.columns c.template.result) c.args.start c.args.negative v
left c v fits is = shown (bytes_below c.args.columns c.fits-columns.1) fits is c.requires.sign c.requires.start c.template.ensures.text

pub returns-then-not-are_digits : goal.returns-then-not-are_digits
returns-then-not-are_digits c = λ v fits is.
    refused c.are_digits.result _ c.are_digits.ensures c.if-not-are_digits.true (within _ _ _ _ (left ((goal.at.returns-then-not-are_digits c).After-template) v fits is))

-- before a negative value is a column for its minus
before : (c : Start) → c.args.negative ≡ true → 1 ≤ c.args.start
before c is = let at = c.requires.start ∙ ap (λ t. if t then blanks c.args.columns + 1 else blanks c.args.columns) is in omega (arith, at)

pub returns-then-start-lt9 : goal.returns-then-start-lt9
returns-then-start-lt9 c = λ v fits is.
    let are = left ((goal.at.returns-then-start-lt9 c).After-template) v fits is in
    let few = c.if-start-lt9.true in
    no_zero_first c.args.negative 9 c.args.start c.args.columns few (sym c.requires.first ∙ c.if-first-eq48.true)
    (ap (λ ts. leading (take 9 (zip2 taken c.args.columns ts))) (sym (c.template.ensures.text (omega (arith, few)) (before ((goal.at.returns-then-start-lt9 c).Start)))) ∙ ap (λ l. leading (take 9 l)) are.digits ∙ are.lead)

pub returns-then-size-eq0 : goal.returns-then-size-eq0
returns-then-size-eq0 c = λ v fits is.
    no_zero (left ((goal.at.returns-then-size-eq0 c).After-template) v fits is) c.if-negative.true c.if-size-eq0.true c.size_of-size.ensures.digits

pub returns : goal.returns
returns c =
    let columns = c.args.columns in
    let negative = c.args.negative in
    let start = c.args.start in
    let size = c.size_of-size.result in
    let are : AreColumns columns = record { size = c.fits-columns.0; below = bytes_below columns c.fits-columns.1; few = c.requires.few } in
    let begin : Begins columns negative start = (sym c.requires.sign, sym c.requires.start) in
    let few = within_nine c.template.result start negative are c.template.ensures.lanes begin c.template.ensures.last (c.are_digits.ensures.0 c.if-not-are_digits.false) in
    let sign = before ((goal.at.returns c).Start) in
    let row = c.template.ensures.text few sign in
    let other : (start < 9 → get_or columns start 0 ≡ 48 → ⊥) × (negative ≡ true → size ≡ 0 → get_or columns start 0 ≡ 48 → ⊥) = elim c.if-first-eq48.branch [
      | else-first-eq48 w ↦ (λ less zero. w.if-first-eq48.false (c.requires.first ∙ zero), λ is none zero. w.if-first-eq48.false (c.requires.first ∙ zero))
      | then-first-eq48+else-start-lt9+else-negative w ↦ (
        λ less zero. omega (arith, w.if-start-lt9.false, less),
        elim w.else-negative.branch [
          | else-negative-via-then-negative+else-size-eq0 u ↦ λ is none zero. u.if-size-eq0.false none
          | else-negative-via-else-negative u ↦ λ is none zero. absurd (cc (is, u.if-negative.false))
        ],
      )
    ] in
    let lead : start ≡ leading (front size) =
    sym (first_is negative start are begin few other.0) ∙ ap (λ ts. leading (take 9 (zip2 taken columns ts))) (sym row) ∙ ap (λ l. leading (take 9 l)) c.size_of-size.ensures.digits in
    let some : negative ≡ true → size ≡ 0 → ⊥ = λ is none. other.1 is none (zero_first negative are lead row c.size_of-size.ensures.digits none) in
    let value = value_is size negative are c.size_of-size.ensures.bound lead (λ is. (sign is, some is)) row c.size_of-size.ensures.digits in
    let (fits, is) = subst (IsValue columns) (sym (c.new.ensures ∙ ap (λ (z : ℤ). to_z w64 (of_z w64 z)) c.signed.ensures ∙ stays _ value.0)) value in
    (fits, is, λ w also shows. value_once w _ _ _ also fits (sym shows ∙ is))
