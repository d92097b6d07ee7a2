use Rattle.rinex_file.proofs.OneReading.{same_values}
use Rattle.rinex_file.proofs.Names.{arith, common_steps}
use Rattle.rinex_file.proofs.read.row.no_values.Goals as goal

pub returns : goal.returns
returns c = grind (arith, common_steps, c.default.ensures, same_values)
