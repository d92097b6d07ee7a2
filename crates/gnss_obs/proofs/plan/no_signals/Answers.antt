use Rattle.gnss_obs.proofs.Names.{[], rules, is_tabulated}
use Rattle.gnss_obs.proofs.plan.no_signals.Goals as goal

pub returns : goal.returns
returns c = is_tabulated c.each.result (λ s. []) (λ s. let given = c.each.ensures s in search rules)
