use Rattle.gnss_obs.proofs.Names.{arith, common_steps}
use Rattle.std.proofs.lemmas.Iterator.Adapters.{position_from-zero}
use Rattle.gnss_obs.proofs.signal.Signal.from_code.Goals as goal

pub loop-index-init : goal.loop-index-init
loop-index-init c = grind (arith, common_steps, position_from-zero)
