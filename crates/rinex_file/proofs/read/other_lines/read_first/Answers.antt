use Rattle.rinex_file.proofs.Names.{exactly, rules, ◌∙◌, sym, refl, none-some, same_Some, civil_of, IsTime, First, line_with, first_content}
use Rattle.rinex_file.proofs.read.other_lines.read_first.Goals as goal

pub returns-in_err-time : goal.returns-in_err-time
returns-in_err-time c = rw c.from_residual.ensures (λ v is e. none-some v (sym c.in_err-time.was ∙ c.time_in.ensures.first v is refl refl e))

pub returns : goal.returns
returns c =
    exactly IsTime (λ t. line_with First (first_content (civil_of t))) c.in_ok-time.time c.then_some.ensures (search rules)
    (λ w is e. same_Some w c.in_ok-time.time (sym (c.time_in.ensures.first w is refl refl e) ∙ c.in_ok-time.was))
    (c.as_slice.ensures.value ∙ c.first_line.ensures) c.is_same.ensures
