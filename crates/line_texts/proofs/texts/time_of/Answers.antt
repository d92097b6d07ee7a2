use Rattle.std.proofs.Common.{◌∙◌, rules, sym}
use Rattle.line_texts.proofs.texts.time_of.Goals as goal

pub returns : goal.returns
returns c = (c.in_ok-moment_in.field-0, sym c.moment_in.ensures ∙ c.in_ok-moment_in.was, c.in_ok-time.ensures.some, search rules)
