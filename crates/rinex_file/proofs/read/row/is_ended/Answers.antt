use Rattle.rinex_file.proofs.Rows.Written.{ends}
use Rattle.rinex_file.proofs.Names.{common_steps, arith, eqb-true}
use Rattle.rinex_file.proofs.read.row.is_ended.Goals as goal

pub returns-then-line-end-eq10 : goal.returns-then-line-end-eq10
returns-then-line-end-eq10 c = grind (arith, common_steps, c.if-end-ge2.branch, c.if-line-end-eq10.true, ends, eqb-true)
