use Rattle.std.proofs.Common.{rules}
use Rattle.gnss_obs.proofs.HeldLemmas.{all_empty, none_mapped}
use Rattle.gnss_obs.proofs.epoch_cells.EpochCells.new.Goals as goal

pub returns : goal.returns
returns c = none_mapped c.in_ok-try_each.field-0 (λ s. let k = c.in_ok-try_each.ensures s in search rules)

pub invariant_of-result : goal.invariant_of-result
invariant_of-result c = all_empty _ (λ s. let k = c.in_ok-try_each.ensures s in search rules)
