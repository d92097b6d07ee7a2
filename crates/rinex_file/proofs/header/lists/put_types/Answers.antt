use Rattle.rinex_file.proofs.HeaderRows.Types.{signal_type, length-system_types, type_more, types_done, index_here, system_here}
use Rattle.rinex_file.proofs.Names.{common_steps, arith, length_indices}
use Rattle.rinex_file.proofs.header.lists.put_types.Goals as goal

pub loop-i-preserved : goal.loop-i-preserved
loop-i-preserved c = grind (arith, length_indices, length-system_types, type_more, signal_type, index_here, system_here)

pub returns : goal.returns
returns c = record { text = grind (arith, common_steps, c.loop-i.invariant, length-system_types, length_indices, types_done); short = grind (arith, c.loop-i.invariant) }
