use Rattle.obs_epoch.proofs.Names.{arith, common_steps}
use Rattle.obs_epoch.proofs.SignalCountsLemmas.{own_counted}
use Rattle.obs_epoch.proofs.signal_counts.SignalCounts.count_view.Goals as goal

pub returns-then-unwrap_or-own : goal.returns-then-unwrap_or-own
returns-then-unwrap_or-own c = grind (arith, common_steps, own_counted)
