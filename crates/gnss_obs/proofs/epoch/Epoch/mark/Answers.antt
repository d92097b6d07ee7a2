use Rattle.gnss_obs.proofs.Names.{subst, sym, marked_at, AreSorted, CellLists, value_of, each_after}
use Rattle.gnss_obs.proofs.MarkLemmas.{mark_sorted}
use Rattle.gnss_obs.proofs.epoch.Epoch.mark.Goals as goal

pub invariant_of-self : goal.invariant_of-self
invariant_of-self c = λ s.
    subst (λ (cells : CellLists). AreSorted (value_of s cells)) (sym c.mark.ensures)
    (each_after (λ s cells. AreSorted cells) c.args.system c.self.inside.cells (marked_at c.args.at (value_of c.args.system c.self.inside.cells)) c.self.invariant
    (mark_sorted c.args.at _ (c.self.invariant c.args.system)) s)
