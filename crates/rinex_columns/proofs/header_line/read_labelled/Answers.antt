use Rattle.rinex_columns.proofs.Names.{arith, take_all}
use Rattle.rinex_columns.proofs.header_line.read_labelled.Goals as goal

pub returns : goal.returns
returns c = grind (arith, take_all)
