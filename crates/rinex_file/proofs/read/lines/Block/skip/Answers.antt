use Rattle.rinex_file.proofs.Reading.Lines.{left_ahead}
use Rattle.rinex_file.proofs.Names.{arith, min-le_left, length-take}
use Rattle.rinex_file.proofs.read.lines.Block.skip.Goals as goal

pub returns : goal.returns
returns c = grind (arith, c.requires, left_ahead, length-take, min-le_left)
