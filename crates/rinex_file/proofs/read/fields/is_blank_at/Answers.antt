use Rattle.rinex_file.proofs.Fields.Lanes.{lanes_are, sixteen_long}
use Rattle.rinex_file.proofs.Fields.Values.{sixteen_blank}
use Rattle.rinex_file.proofs.Names.{arith, common_steps, eqb-true}
use Rattle.rinex_file.proofs.read.fields.is_blank_at.Goals as goal

pub returns : goal.returns
returns c = grind (arith, common_steps, c.requires, c.blanks_in.ensures, sixteen_blank, sixteen_long, lanes_are, eqb-true)
