use Rattle.obs_epoch.proofs.Names.{arith, common_steps}
use Rattle.obs_epoch.proofs.MarksLemmas.{first_all, first_in_length, first_in_step}
use Rattle.obs_epoch.proofs.marks.mark_cells.Goals as goal

pub mark_cell-requires-clause-at : goal.mark_cell-requires-clause-at
mark_cell-requires-clause-at c = grind (arith, common_steps, first_in_length)

pub loop-i-preserved : goal.loop-i-preserved
loop-i-preserved c = grind (arith, common_steps, first_in_step)

pub returns : goal.returns
returns c = grind (arith, common_steps, first_all)
