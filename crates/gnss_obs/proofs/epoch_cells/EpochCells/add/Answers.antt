use Rattle.gnss_obs.proofs.Names.{BySystem, Cells, Box, Global, ◌∙◌, refl, sym, ap, subst, value_of, map_by, AreHeld, AreKept, IsAdded, each_after, value_mapped, mapped_after}
use Rattle.gnss_obs.proofs.HeldLemmas.{kept_added, is_added}
use Rattle.gnss_obs.proofs.epoch_cells.EpochCells.add.Goals as goal

pub returns : goal.returns
returns c =
    let system = c.system.result in
    let lists = c.self.inside.0 in
    subst (IsAdded c.args.self.now c.args.x c.add_to.result)
    (sym (ap (map_by (λ list. list.value)) c.add_to.ensures.others ∙ mapped_after (λ list. list.value) system lists (value_of system c.add_to.new.cells)))
    (is_added (sym c.system.ensures) (subst (AreHeld system) (sym (value_mapped system (λ list. list.value) lists)) (c.self.invariant system).held) c.requires.observed c.self.view_is
    (sym (value_mapped system (λ list. list.value) lists)) c.add_to.ensures.own)

pub invariant_of-self : goal.invariant_of-self
invariant_of-self c = λ s.
    let system = c.system.result in
    subst (λ (lists : BySystem (Box Cells Global)). AreKept s (value_of s lists).value) (sym c.add_to.ensures.others)
    (each_after (λ s list. AreKept s list.value) system c.self.inside.0 (value_of system c.add_to.new.cells) c.self.invariant
    (kept_added c.add_to.result (sym c.system.ensures) (c.self.invariant system) c.requires.observed c.requires.indicator refl c.add_to.ensures.own) s)
