use Rattle.rinex_file.proofs.Fields.Values.{limits}
use Rattle.rinex_file.proofs.Names.{arith, common_steps, eqb-true}
use Rattle.rinex_file.proofs.read.fields.are_digits.Goals as goal

pub returns : goal.returns
returns c = grind (arith, common_steps, limits, eqb-true)
