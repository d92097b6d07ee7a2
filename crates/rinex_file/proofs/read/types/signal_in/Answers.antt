use Rattle.rinex_file.proofs.HeaderRows.Types.{utf8-code, code_of_one}
use Rattle.rinex_file.proofs.Names.{arith, common_steps, ◌≡◌, ◌∙◌, sym, subst, IsUtf8}
use Rattle.rinex_file.proofs.read.types.signal_in.Goals as goal

pub returns-in_err-code-clause-read : goal.returns-in_err-code-clause-read
returns-in_err-code-clause-read c = λ s (listed, same, is).
    let code = subst IsUtf8 (sym (c.columns.ensures.value ∙ is)) (utf8-code s.system s.index listed) in
    grind (arith, common_steps, code, c.from_utf8.ensures.cases, c.ok.ensures.value, c.in_err-code.was)

pub returns-clause-read : goal.returns-clause-read
returns-clause-read c = λ s (listed, same, is).
    let code : c.in_ok-code.code.now ≡ c.columns.result.now = grind (arith, common_steps, c.from_utf8.ensures.cases, c.ok.ensures.value, c.in_ok-code.was) in
    c.from_code.ensures ∙ code_of_one _ s _ listed same (code ∙ c.columns.ensures.value ∙ is)
