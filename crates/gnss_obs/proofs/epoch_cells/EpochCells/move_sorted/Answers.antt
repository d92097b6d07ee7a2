use Rattle.gnss_obs.proofs.Names.{Box, Global, ◌≡◌, ◌∙◌, All, sym, ap, subst, BySystem, System, AreKept, AreOrderedBy, CellLists, IsPlanned, planned_of, sorted_cells, equal_values, value_tabulated, value_mapped, value_of, map_by, Cells}
use Rattle.gnss_obs.proofs.HeldLemmas.{all_empty, kept_sorted, none_mapped}
use Rattle.gnss_obs.proofs.SortLemmas.{cells_rise}
use Rattle.gnss_obs.proofs.epoch_cells.EpochCells.move_sorted.Goals as goal

cells_are : (s : System) (lists : BySystem (Box Cells Global)) {v : CellLists} → map_by (λ c. c.value) lists ≡ v → (value_of s lists).value ≡ value_of s v
cells_are s lists view = sym (value_mapped s (λ cells. cells.value) lists) ∙ ap (value_of s) view

pub move_all-requires-clause-planned : goal.move_all-requires-clause-planned
move_all-requires-clause-planned c = λ s. subst (All (IsPlanned (planned_of s c.args.plan.now))) (sym (cells_are s c.self.inside.0 c.self.view_is)) (c.requires s)

pub invariant_of-self : goal.invariant_of-self
invariant_of-self c = all_empty _ c.move_all.ensures.none

pub invariant_of-sorted : goal.invariant_of-sorted
invariant_of-sorted c = λ s. subst (AreKept s) (sym (c.move_all.ensures.sorted s)) (kept_sorted s (planned_of s c.args.plan.now) _ (c.self.invariant s))

pub returns-clause-sorted : goal.returns-clause-sorted
returns-clause-sorted c =
    equal_values _ _ (λ s.
    value_mapped s (λ cells. cells.value) c.move_all.new.sorted ∙ c.move_all.ensures.sorted s ∙ ap (sorted_cells (planned_of s c.args.plan.now)) (cells_are s c.self.inside.0 c.self.view_is)
    ∙ sym (value_tabulated s (λ t. sorted_cells (planned_of t c.args.plan.now) (value_of t c.args.self.now))))

pub returns-clause-order : goal.returns-clause-order
returns-clause-order c = λ s.
    let planned = planned_of s c.args.plan.now in
    subst (AreOrderedBy planned) (sym (value_mapped s (λ cells. cells.value) c.move_all.new.sorted ∙ c.move_all.ensures.sorted s))
    (cells_rise s planned _ (c.self.invariant s) (subst (All (IsPlanned planned)) (sym (cells_are s c.self.inside.0 c.self.view_is)) (c.requires s)))

pub returns-clause-none : goal.returns-clause-none
returns-clause-none c = none_mapped _ c.move_all.ensures.none
