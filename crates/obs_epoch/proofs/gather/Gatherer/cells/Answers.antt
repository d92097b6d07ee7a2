use Rattle.obs_epoch.proofs.Names.{◌∙◌, arith, common_steps}
use Rattle.obs_epoch.proofs.ValueLemmas.{count_held}
use Rattle.obs_epoch.proofs.gather.Gatherer.cells.Goals as goal

pub returns-clause-count : goal.returns-clause-count
returns-clause-count c = grind (arith, common_steps, count_held)

pub returns-clause-held : goal.returns-clause-held
returns-clause-held c s ms es again h = returns-clause-count c ∙ h.standing.sizes c.args.system
