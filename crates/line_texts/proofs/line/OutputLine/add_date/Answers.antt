use Rattle.line_texts.proofs.Names.{append_assoc, arith}
use Rattle.line_texts.proofs.line.OutputLine.add_date.Goals as goal

pub returns : goal.returns
returns c = record { short = omega arith; text = simp (c.add_two-2.ensures.text, c.add_two.ensures.text, c.add_four.ensures.text, c.from.ensures, c.from-2.ensures, c.from-3.ensures, append_assoc) }
