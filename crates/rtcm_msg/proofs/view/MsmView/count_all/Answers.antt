use Rattle.rtcm_msg.proofs.Names.{common_steps, ◌+◌, ◌∙◌, List, ap, sym, subst, arith, slice_index, chosen, AreAll, AreCells, Entry, MasksValue, Pair, uint, value_count}
use Rattle.rtcm_msg.proofs.ValueLaws.{after_none, all_entries, all_cells, cell_none, entries_same, none_left, zeros}
use Rattle.rtcm_msg.proofs.view.MsmView.count_all.Goals as goal

pub loop-cells-init : goal.loop-cells-init
loop-cells-init g c =
    let all = subst (λ (s : MasksValue). AreAll s c.of-cells.result.left c.of-cells.result.pairs) c.masks-masks.ensures c.of-cells.ensures.all in
    record {
      counts = λ i h. omega (arith, zeros 32 i, ap (λ (es : List Entry). value_count c.args.listed (i + 1) es) (sym (all_entries c.args.self.now c.of-cells.result all c.of-cells.ensures.none)));
      cells = all_cells c.args.self.now c.of-cells.result c.cells.result all c.of-cells.ensures.none c.cells.ensures.count c.cells.ensures.set;
      small = λ i. omega (arith, zeros 32 i);
    }

pub loop-cells-preserved : goal.loop-cells-preserved
loop-cells-preserved g c =
    let v = c.args.self.now in
    let i = c.loop-cells.invariant in
    let left = c.loop-cells.cells.left in
    let same = c.with_signals-cells.ensures.same in
    let before : AreCells v (record { pairs = c.with_signals-cells.result; left = left; next = c.loop-cells.cells.next }) = grind (arith, i.cells, same, c.with_signals-cells.ensures.in_range) in
    let none = cell_none v.msm.sets c.with_signals-cells.result c.split_signal.result.1 (c.cells-mask.ensures.value ∙ ap (λ (s : MasksValue). s.cells) c.masks-masks.ensures) c.split_signal.ensures.first before.left.0 c.if-mask-cells-eq1.false in
    record {
      counts = λ n h. i.counts n h ∙ entries_same c.args.listed n (slice_index c.loop-cells.counts n) v _ _ c.loop-cells.cells.next (ap (λ (ps : List Pair). chosen (uint left v.msm.sets.cells) ps) (sym same) ∙ none);
      cells = after_none v _ c.split_signal.result.1 c.split_signal.result.0 before c.split_signal.ensures.first c.split_signal.ensures.in_range none;
      small = i.small;
    }

pub returns-clause-counts : goal.returns-clause-counts
returns-clause-counts g c = grind (arith, common_steps, none_left)
