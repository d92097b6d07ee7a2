-- A line is the end of the header, or one of the other rows; what is known goes on by it.
use Rattle.rinex_file.proofs.HeaderRows.End.{ends, no_end_line}
use Rattle.rinex_file.proofs.HeaderRows.Steps.{decided, items_expected, none_at, none_from, read_next, row_law, takes_from, takes_row, unread_next}
use Rattle.rinex_file.proofs.HeaderRows.Places.{place_at}
use Rattle.rinex_file.proofs.Names.{refused, arith, common_steps, is_of_types, is_some, ◌≡◌, ◌∙◌, sym, ap, subst, refl, ℕ, List, Result, Ok, Err, IsErrAnd, Expected, Refusal, Memory, Bad, End, row_place, Known, IsHeadAt, SameFrom, EndsHeader, NoneGoesOn, TakesHeaderLine, true, line_with, []}
use Rattle.rinex_file.proofs.read.head_so_far.HeadSoFar.take.Goals as goal

-- a refusal that was passed on
stopped : {Q : Refusal → Type 0} (old new : Known) (from : ℕ) (line : List ℕ) (r : Result Expected Refusal) → IsErrAnd r Q → ((e : Refusal) → Q e → e ≡ Bad → NoneGoesOn old from line)
    → ((e : Refusal) → Q e → e ≡ Memory → is_of_types line ≡ true) → TakesHeaderLine old from line new r
stopped {Q} old new from line (Ok next) is bad run = absurd is
stopped {Q} old new from line (Err Bad) is bad run = bad Bad is refl
stopped {Q} old new from line (Err Memory) is bad run = run Memory is refl

pub returns-in-End-2 : goal.returns-in-End-2
returns-in-End-2 c =
    let same = c.place_from-place.ensures.same in
    none_from same (none_at End same.expected c.place_from-place.ensures.here (sym c.row_at.ensures ∙ c.in-End.is)
    (no_end_line c.args.self.now c.args.line.now (refused (is_some c.read.result) (c.args.line.now ≡ line_with End []) c.read.ensures (sym c.is_some.ensures ∙ c.if-is_some.false))))

at_end : (k : Known) (n from : ℕ) (line : List ℕ) → n ≡ row_place End → IsHeadAt k from → SameFrom k line from n → line ≡ line_with End [] → EndsHeader k from line k
at_end k n from line e at same is = ends k line from at (subst (SameFrom k line from) e same) is

pub returns-in-End : goal.returns-in-End
returns-in-End c =
    let same = c.place_from-place.ensures.same in
    at_end c.args.self.now c.place_from-place.result c.args.from c.args.line.now (place_at c.place_from-place.result End same.expected (sym c.row_at.ensures ∙ c.in-End.is)) c.requires same
    (c.read.ensures.0 (sym c.is_some.ensures ∙ c.if-is_some.true))

pub read_row-requires-clause-before : goal.read_row-requires-clause-before
read_row-requires-clause-before c = grind (arith, common_steps, c.place_from-place.ensures, c.requires, c.row_at.ensures, items_expected)

pub returns-in_err-read_row-in_default : goal.returns-in_err-read_row-in_default
returns-in_err-read_row-in_default c = stopped c.args.self.now _ c.args.from c.args.line.now _ c.from_residual.ensures.1
    (λ e said bad.
    let same = c.place_from-place.ensures.same in
    none_from same (none_at c.row_at.result same.expected c.place_from-place.ensures.here (sym c.row_at.ensures) (c.in_err-read_row-in_default.ensures.bad (ap Err (sym said ∙ bad)))))
    (λ e said run. c.in_err-read_row-in_default.ensures.memory (ap Err (sym said ∙ run)))

pub returns-in_ok-read_row-in_default : goal.returns-in_ok-read_row-in_default
returns-in_ok-read_row-in_default c =
    let old = c.args.self.now in
    let same = c.place_from-place.ensures.same in
    let at = sym c.row_at.ensures in
    let read = c.in_ok-read_row-in_default.ensures.read in
    decided c.row_at.result same.expected at c.in_default.not-End
    (takes_from same (takes_row old c.read_row.new.self c.args.line.now same.expected c.place_from-place.ensures.here (row_law same.expected at c.place_from-place.ensures.here read)))
    c.are_valid.ensures (read.lists c.requires.lists) (read_next same.expected at read same.read) (unread_next same.expected at read same.unread) c.expected_at.ensures
