use Rattle.rtcm_msg.proofs.Names.{arith, common_steps}
use Rattle.rtcm_msg.proofs.FormLaws.{cell_in_range, cell_same}
use Rattle.rtcm_msg.proofs.ViewLaws.{row_value, below, fits, cells_counted}
use Rattle.rtcm_msg.proofs.view.MsmView.cell.Goals as goal

pub cell_in-requires-clause-there : goal.cell_in-requires-clause-there
cell_in-requires-clause-there c = grind (arith, common_steps, below, cells_counted)

pub returns-in-Bits : goal.returns-in-Bits
returns-in-Bits c = grind (arith, common_steps, below, cells_counted, fits, row_value, cell_in_range, cell_same)

pub returns-in-Packed : goal.returns-in-Packed
returns-in-Packed c = grind (arith, common_steps, fits, cell_in_range, cell_same)
