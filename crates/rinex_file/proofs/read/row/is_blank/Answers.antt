use Rattle.rinex_file.proofs.Rows.Written.{signal_is}
use Rattle.rinex_file.proofs.Names.{arith, common_steps, field}
use Rattle.rinex_file.proofs.read.row.is_blank.Goals as goal

pub returns : goal.returns
unfolding field
returns c = grind (arith, common_steps, c.requires, c.is_blank_at.ensures, c.if-not-is_blank_at.false, c.is_blank_at-else-not-is_blank_at.ensures, c.if-not-is_blank_at-2.false, c.is_blank_at-else-not-is_blank_at-2.ensures, c.if-not-is_blank_at-3.false, c.is_blank_at-2.ensures, signal_is)
