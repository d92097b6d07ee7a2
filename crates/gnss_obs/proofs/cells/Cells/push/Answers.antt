use Rattle.gnss_obs.proofs.Names.{arith, length-append, length-set, common_steps}
use Rattle.gnss_obs.proofs.FoundLemmas.{found_push, slots_push}
use Rattle.gnss_obs.proofs.cells.Cells.push.Goals as goal

pub invariant_of-self : goal.invariant_of-self
invariant_of-self c = grind (arith, common_steps, length-append, length-set, found_push, slots_push)
