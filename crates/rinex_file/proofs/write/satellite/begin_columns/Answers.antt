use Rattle.rinex_file.proofs.Names.{arith}
use Rattle.rinex_file.proofs.Digits.Padded.{two_digits}
use Rattle.rinex_file.proofs.Rows.Cells.{three_set, three_dropped}
use Rattle.rinex_file.proofs.write.satellite.begin_columns.Goals as goal

pub returns-clause-front : goal.returns-clause-front
returns-clause-front c = grind (arith, two_digits, three_set)

pub returns-clause-rest : goal.returns-clause-rest
returns-clause-rest c = three_dropped c.args.row.now _ _ _
