use Rattle.rinex_file.proofs.Fields.Templates.{eight_whole}
use Rattle.rinex_file.proofs.Names.{arith, to_z-of_z}
use Rattle.rinex_file.proofs.write.lanes.columns_of_range.Goals as goal

pub returns-then-value-lt100000000000 : goal.returns-then-value-lt100000000000
returns-then-value-lt100000000000 c = grind (arith, c.digits.ensures, c.columns_from.ensures, c.requires, to_z-of_z, eight_whole)
