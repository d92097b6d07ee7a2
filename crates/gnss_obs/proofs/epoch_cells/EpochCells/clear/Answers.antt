use Rattle.gnss_obs.proofs.HeldLemmas.{all_empty, none_mapped}
use Rattle.gnss_obs.proofs.epoch_cells.EpochCells.clear.Goals as goal

pub returns : goal.returns
returns c = none_mapped _ c.clear_all.ensures

pub invariant_of-self : goal.invariant_of-self
invariant_of-self c = all_empty _ c.clear_all.ensures
