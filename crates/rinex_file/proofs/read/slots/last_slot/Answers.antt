use Rattle.rinex_file.proofs.HeaderRows.Slots.{last_taken}
use Rattle.rinex_file.proofs.Names.{arith}
use Rattle.rinex_file.proofs.read.slots.last_slot.Goals as goal

pub loop-i-preserved : goal.loop-i-preserved
loop-i-preserved c = grind (arith, c.are_channels.ensures.slots, c.loop-i-test.true, c.is_some.ensures, c.number.ensures.value, c.loop-i.invariant.last, last_taken, goal.then-is_some, goal.else-is_some)
