use Rattle.rinex_file.proofs.HeaderRows.Read.{row_taken}
use Rattle.rinex_file.proofs.HeaderRows.Lists.{up_to}
use Rattle.rinex_file.proofs.HeaderRows.Types.{same_types_line}
use Rattle.rinex_file.proofs.Names.{at_some, refused, List, System, add-one, signals_begun, take, types_with, ℕ, ◌+◌, ◌≡◌, ◌∙◌, sym, ap, Bool, true, Option, then_some, ok_or, ⊤, OnOk, Result, Err, Refusal, Bad, err_from_is_err_and, indices, none-some, same_Some, common_steps, arith}
use Rattle.rinex_file.proofs.read.types.TypesSoFar.take.Goals as goal

-- signals that begin in the lines up to one have the line of all
first_line : (system : System) (all so_far : List ℕ) (row count : ℕ) → so_far ≡ take (signals_begun (row + 1)) all → types_with system count so_far row ≡ types_with system count all row
first_line system all so_far row count is = grind (arith, common_steps, add-one, same_types_line, up_to)

pub returns-in_err-count-clause-bad : goal.returns-in_err-count-clause-bad
returns-in_err-count-clause-bad c = λ _ all l. none-some _ (sym c.in_err-count.ensures.ok_part ∙ c.read_count.ensures.count _ all l)

pub returns-in_err-take_signals-clause-bad : goal.returns-in_err-take_signals-clause-bad
returns-in_err-take_signals-clause-bad c = λ refused all l.
    let p = err_from_is_err_and c.from_residual-in_err-take_signals.result c.from_residual-in_err-take_signals.ensures.1 in
    c.in_err-take_signals.ensures.bad (ap Err (cc (p.1 ∙ ap Err p.2))) _ all l
    (sym (same_Some _ _ (sym c.in_ok-count.ensures.ok_part ∙ c.read_count.ensures.count _ all l)))

on_right : (b : Bool) {o : Option ⊤} {r : Result ⊤ Refusal} (P : Type 0) → o ≡ then_some b tt → r ≡ ok_or o Bad → (b ≡ true → P) → OnOk r P
on_right b P e f p = grind (arith, common_steps)

pub returns-clause-bad : goal.returns-clause-bad
returns-clause-bad c = λ bad all l.
    let system = c.args.system in
    let count = c.in_ok-count.count in
    let size = sym (same_Some _ _ (sym c.in_ok-count.ensures.ok_part ∙ c.read_count.ensures.count _ all l)) in
    let read = ap indices c.as_slice.ensures ∙ c.in_ok-take_signals.ensures.taken _ all l size in
    let again = c.as_slice-2.ensures.value ∙ c.types_with-again.ensures ∙ first_line system all _ c.args.row count read in
    refused c.is_same.result _ c.is_same.ensures (grind (arith, common_steps)) (l.is ∙ ap (λ n. types_with system n all c.args.row) size ∙ sym again)

pub returns-clause-taken : goal.returns-clause-taken
returns-clause-taken c = on_right c.is_same.result _ c.then_some.ensures c.ok_or-2.ensures.value (λ same.
    let count = c.in_ok-count.count in
    let read = c.in_ok-count.ensures.ok_part in
    row_taken c.take_signals.new.signals
    (at_some _ count _ read c.read_count.ensures.few) (at_some _ count _ read c.read_count.ensures.rows) (at_some _ count _ read c.read_count.ensures.later) c.in_ok-take_signals.ensures.grows c.requires.begun c.in_ok-take_signals.ensures.size
    (c.is_same.ensures.0 same ∙ c.as_slice-2.ensures.value ∙ c.types_with-again.ensures ∙ ap (λ l. types_with c.args.system count (indices l) c.args.row) c.as_slice.ensures)
    (λ all l. let size = sym (same_Some _ _ (sym read ∙ c.read_count.ensures.count _ all l)) in (size, c.in_ok-take_signals.ensures.taken _ all l size)))
