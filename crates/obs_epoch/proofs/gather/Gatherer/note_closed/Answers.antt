use Rattle.obs_epoch.proofs.Names.{sym, subst, GatherSetup, HasPlannedCells}
use Rattle.obs_epoch.proofs.gather.Gatherer.note_closed.Goals as goal

pub close-requires : goal.close-requires
close-requires c = subst (λ (s : GatherSetup). HasPlannedCells s.plan c.self.inside.pending) (sym c.setup.ensures) c.self.invariant.planned
