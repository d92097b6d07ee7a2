use Rattle.gnss_obs.proofs.Names.{arith, common_steps}
use Rattle.gnss_obs.proofs.FoundLemmas.{found_here, found_none}
use Rattle.gnss_obs.proofs.cells.Cells.find.Goals as goal

pub returns-then-at-len-clause-any : goal.returns-then-at-len-clause-any
returns-then-at-len-clause-any c = grind (arith, common_steps, found_none)

pub returns-clause-any : goal.returns-clause-any
returns-clause-any c = grind (arith, common_steps, found_here)
