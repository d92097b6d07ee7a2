use Rattle.line_texts.proofs.Names.{arith, decimal_digit, common_steps}
use Rattle.line_texts.proofs.line.OutputLine.put_number.Goals as goal

pub returns-then-number-lt10 : goal.returns-then-number-lt10
returns-then-number-lt10 c = grind (arith, common_steps, decimal_digit)
