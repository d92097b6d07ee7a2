use Rattle.rtcm_msg.proofs.Names.{common_steps, ◌∙◌, ap, sym, refl, arith, MasksValue, entry_in}
use Rattle.rtcm_msg.proofs.ValueLaws.{cell_there, cell_none, next_there, after_cell, after_none, entries_first, entries_same, counted, not_counted}
use Rattle.rtcm_msg.proofs.view.MsmView.count_pair.Goals as goal
use Rattle.rtcm_msg.proofs.view.MsmView.count_pair.Goals.{then-has_listed_value, else-has_listed_value}

pub has_listed_value-requires-clause-cell : goal.has_listed_value-requires-clause-cell
has_listed_value-requires-clause-cell g c = grind (arith, common_steps, cell_there, next_there)

pub returns-after-has_listed_value-clause-cells : goal.returns-after-has_listed_value-clause-cells
returns-after-has_listed_value-clause-cells g c =
    let there = cell_there c.args.self.now.msm.sets c.args.cells.pairs c.split_signal.result.1 (c.cells-2.ensures.value ∙ ap (λ (s : MasksValue). s.cells) c.masks.ensures) c.split_signal.ensures.first c.requires.cells.left.0 c.if-cells-left-eq1.true in
    after_cell c.args.self.now c.args.cells c.split_signal.result.1 c.split_signal.result.0 c.requires.cells c.split_signal.ensures.first c.split_signal.ensures.in_range there

pub returns-else-cells-left-eq1-clause-cells : goal.returns-else-cells-left-eq1-clause-cells
returns-else-cells-left-eq1-clause-cells g c =
    let none = cell_none c.args.self.now.msm.sets c.args.cells.pairs c.split_signal.result.1 (c.cells-2.ensures.value ∙ ap (λ (s : MasksValue). s.cells) c.masks.ensures) c.split_signal.ensures.first c.requires.cells.left.0 c.if-cells-left-eq1.false in
    after_none c.args.self.now c.args.cells c.split_signal.result.1 c.split_signal.result.0 c.requires.cells c.split_signal.ensures.first c.split_signal.ensures.in_range none

pub returns-after-has_listed_value-clause-counts : goal.returns-after-has_listed_value-clause-counts
returns-after-has_listed_value-clause-counts g c = λ i h.
    let v = c.args.self.now in
    let x = c.split_signal.result.0 in
    let there = cell_there v.msm.sets c.args.cells.pairs c.split_signal.result.1 (c.cells-2.ensures.value ∙ ap (λ (s : MasksValue). s.cells) c.masks.ensures) c.split_signal.ensures.first c.requires.cells.left.0 c.if-cells-left-eq1.true in
    let first = entries_first (entry_in v.form v.msm) _ _ x v.msm.cells c.args.cells.next there (next_there c.args.cells.next _ _ _ _ there c.requires.cells.next) in
    elim c.if-has_listed_value.branch [
      | then-has_listed_value w ↦
          rw w.counts-is (counted c.args.listed i c.args.counts.now first refl c.split_signal.ensures.signal.0 (omega (arith, c.split_signal.ensures.signal.1, c.told-counts)) (sym c.has_listed_value.ensures ∙ w.if-has_listed_value.true))
      | else-has_listed_value w ↦ rw w.counts-is (not_counted c.args.listed i c.args.counts.now _ _ _ first (sym c.has_listed_value.ensures ∙ w.if-has_listed_value.false))
    ]

pub returns-else-cells-left-eq1-clause-counts : goal.returns-else-cells-left-eq1-clause-counts
returns-else-cells-left-eq1-clause-counts g c = grind (arith, common_steps, cell_none, entries_same)
