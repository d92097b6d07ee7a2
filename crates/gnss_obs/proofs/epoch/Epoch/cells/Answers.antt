use Rattle.gnss_obs.proofs.Names.{sym, subst, AreSorted}
use Rattle.gnss_obs.proofs.epoch.Epoch.cells.Goals as goal

pub returns-clause-order : goal.returns-clause-order
returns-clause-order c = subst AreSorted (sym c.of.ensures.cells) (c.self.invariant c.args.system)
