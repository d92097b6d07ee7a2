-- A line of types is read by its own function, and each other one as its row is.
use Rattle.rinex_file.proofs.HeaderRows.Read.{refuse_types, types_read}
use Rattle.rinex_file.proofs.Names.{arith, common_steps, AreItemsBefore, HeaderRow, IsHeaderLineRead, Known, List, OnOk, Refusal, RefusesHeaderLine, Result, Ok, Err, System, TakesTypes, Types, counted, planned_of, subst, sym, with_types, ℕ, ⊤, ◌≡◌}
use Rattle.rinex_file.proofs.read.head_so_far.HeadSoFar.read_row.Goals as goal

types_taken : (r : Result ⊤ Refusal) {q : HeaderRow} (s : System) (row : ℕ) (line : List ℕ) (k new : Known) → q ≡ Types s row → AreItemsBefore k (Types s row)
    → OnOk r (new ≡ with_types s k (counted new s) (planned_of s new.shown.plan))
    → OnOk r (TakesTypes s row line (counted k s) (planned_of s k.shown.plan) (counted new s) (planned_of s new.shown.plan)) → OnOk r (IsHeaderLineRead q line k new)
types_taken (Ok x) s row line k new is before kept taken =
    subst (λ q. IsHeaderLineRead q line k new) (sym is) (subst (IsHeaderLineRead (Types s row) line k) (sym kept) (types_read s row line k before (counted new s) (planned_of s new.shown.plan) taken))
types_taken (Err e) s row line k new is before kept taken = tt

pub returns-in-Types-clause-read : goal.returns-in-Types-clause-read
returns-in-Types-clause-read c = grind (arith, common_steps, c.in-Types.is, c.requires, c.take_types.ensures, types_taken)

pub returns-in-Types-clause-bad : goal.returns-in-Types-clause-bad
returns-in-Types-clause-bad c = λ bad.
    subst (λ q. RefusesHeaderLine c.args.self.now q c.args.line.now) (sym c.in-Types.is)
    (refuse_types c.in-Types.system c.in-Types.row c.args.line.now c.args.self.now (subst (AreItemsBefore c.args.self.now) c.in-Types.is c.requires.before) (c.take_types.ensures.bad bad))
