use Rattle.line_texts.proofs.LengthLaws.{no_sign}
use Rattle.line_texts.proofs.Names.{arith, rules, strip_prefix_char}
use Rattle.line_texts.proofs.texts.coordinate_of.Goals as goal

pub returns-in_err-length_below-in-None : goal.returns-in_err-length_below-in-None
returns-in_err-length_below-in-None c = rw (no_sign c.args.text.now _ (strip_prefix_char 45 _ _ c.strip_prefix.ensures.cases (omega arith)) c.in-None.is) (search rules)
