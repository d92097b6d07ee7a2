use Rattle.std.proofs.Common.{rules}
use Rattle.obs_epoch.proofs.SignalCountsLemmas.{none_counted}
use Rattle.obs_epoch.proofs.signal_counts.SignalCounts.new.Goals as goal

pub returns : goal.returns
returns c = none_counted c.each.result (λ s. let given = c.each.ensures s in search rules)
