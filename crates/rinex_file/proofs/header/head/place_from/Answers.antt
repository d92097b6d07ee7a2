use Rattle.rinex_file.proofs.HeaderRows.Agree.{line_none}
use Rattle.rinex_file.proofs.Names.{common_steps, arith}
use Rattle.rinex_file.proofs.header.head.place_from.Goals as goal

pub loop-place-preserved : goal.loop-place-preserved
loop-place-preserved c = grind (arith, common_steps, c.row_at.ensures, c.has_line.ensures, c.if-has_line.false, c.loop-place.invariant, c.loop-place-test.true, line_none)
