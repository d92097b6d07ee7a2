use Rattle.obs_epoch.proofs.Names.{◌++◌, prefix_trans}
use Rattle.obs_epoch.proofs.HistoryLemmas.{epochs-more, all-prefix, with_pending}
use Rattle.obs_epoch.proofs.ThinLemmas.{thin_prefix}
use Rattle.obs_epoch.proofs.laws.closed_stay.Goals as goal

pub returns-clause-stay : goal.returns-clause-stay
returns-clause-stay c = λ s ms more. thin_prefix s.choice _ _ (epochs-more s ms more)

pub returns-clause-first : goal.returns-clause-first
returns-clause-first c = λ s ms more. thin_prefix s.choice _ _ (prefix_trans _ _ _ (epochs-more s ms more) (all-prefix s (ms ++ more)))

pub returns-clause-all : goal.returns-clause-all
returns-clause-all c = λ s xs. with_pending s xs
