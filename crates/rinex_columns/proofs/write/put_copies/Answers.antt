use Rattle.rinex_columns.proofs.Names.{arith, common_steps}
use Rattle.rinex_columns.proofs.write.put_copies.Goals as goal

pub push-requires : goal.push-requires
push-requires g c = grind (arith, common_steps)

pub loop-preserved : goal.loop-preserved
loop-preserved g c = grind (arith, common_steps)

pub returns : goal.returns
returns g c = record { text = grind (arith, common_steps); short = grind (arith, common_steps) }
