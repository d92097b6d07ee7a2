use Rattle.std.proofs.Common.{◌∙◌, rules, sym}
use Rattle.line_texts.proofs.texts.hour_of.Goals as goal

pub returns : goal.returns
returns c = (c.in_ok-civil_in.field-0, sym c.civil_in.ensures ∙ c.in_ok-civil_in.was, c.in_ok-time.ensures.some, search rules)
