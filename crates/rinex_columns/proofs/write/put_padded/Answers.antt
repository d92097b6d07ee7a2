use Rattle.rinex_columns.proofs.Names.{arith, common_steps}
use Rattle.rinex_columns.proofs.write.put_padded.Goals as goal

pub put_copies-requires : goal.put_copies-requires
put_copies-requires g c = grind (arith, common_steps)

pub put-requires : goal.put-requires
put-requires g c = grind (arith, common_steps)

pub returns : goal.returns
returns g c = record { text = grind (arith, common_steps); short = grind (arith, common_steps) }
