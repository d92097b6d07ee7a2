use Rattle.std.proofs.Common.{inl, inr}
use Rattle.line_texts.proofs.texts.week_of.Goals as goal

pub returns-in_err-hour_of-in-None : goal.returns-in_err-hour_of-in-None
returns-in_err-hour_of-in-None c = rw c.from_residual.ensures (λ n is. elim is [
  | inl number ↦ c.in-None.ensures n number
  | inr date ↦ c.in_err-hour_of-in-None.ensures date.0 date.1
])
