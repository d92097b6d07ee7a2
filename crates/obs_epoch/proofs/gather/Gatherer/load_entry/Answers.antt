use Rattle.obs_epoch.proofs.Names.{arith, common_steps}
use Rattle.obs_epoch.proofs.EntryLemmas.{has_phase_of}
use Rattle.obs_epoch.proofs.gather.Gatherer.load_entry.Goals as goal

pub returns-in-Some : goal.returns-in-Some
returns-in-Some c = grind (arith, common_steps)

pub load_cell-requires-clause-phase : goal.load_cell-requires-clause-phase
load_cell-requires-clause-phase c = grind (arith, has_phase_of)
