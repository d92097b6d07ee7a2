use Rattle.gnss_obs.proofs.Names.{BySystem, Cells, Box, Global, sym, subst, value_of, AreKept, each_after}
use Rattle.gnss_obs.proofs.MarkLemmas.{mark_kept}
use Rattle.gnss_obs.proofs.epoch_cells.EpochCells.mark.Goals as goal

pub invariant_of-self : goal.invariant_of-self
invariant_of-self c = λ s.
    let system = c.args.system in
    subst (λ (lists : BySystem (Box Cells Global)). AreKept s (value_of s lists).value) (sym c.mark_in.ensures.others)
    (each_after (λ s list. AreKept s list.value) system c.self.inside.0 (value_of system c.mark_in.new.cells) c.self.invariant
    (subst (AreKept system) (sym c.mark_in.ensures.own) (mark_kept system c.args.at _ (c.self.invariant system))) s)
