use Rattle.rinex_columns.proofs.NumberLaws.{ten_pow}
use Rattle.rinex_columns.proofs.Names.{arith, common_steps}
use Rattle.rinex_columns.proofs.write.put_fixed.Goals as goal

pub nonzero_div-size : goal.nonzero_div-size
nonzero_div-size g c = let h = ten_pow c.args.places in omega (arith, h, c.requires.scale)

pub nonzero_rem-size : goal.nonzero_rem-size
nonzero_rem-size g c = let h = ten_pow c.args.places in omega (arith, h, c.requires.scale)

pub put-requires : goal.put-requires
put-requires g c = grind (arith, common_steps)

pub push-requires-2 : goal.push-requires-2
push-requires-2 g c = grind (arith, common_steps)

pub put_padded-requires : goal.put_padded-requires
put_padded-requires g c = grind (arith, common_steps)

pub returns : goal.returns
returns g c = record { text = grind (arith, common_steps); short = grind (arith, common_steps) }
