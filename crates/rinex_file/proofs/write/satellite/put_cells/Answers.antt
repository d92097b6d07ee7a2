-- The cells are put last to first: the columns are those of the cells from `at` on, so that of two cells of a signal the
-- first is written.
use Rattle.rinex_file.proofs.Rows.Cells.{no_place, others_stay, other_stays, cell_put, held_fits}
use Rattle.rinex_file.proofs.Rows.Columns.{few_with, no_cells, value_put}
use Rattle.rinex_file.proofs.Names.{bit_or, arith, ◌≡◌, ◌∙◌, refl, sym, ap, subst, ◌-◌, ◌<◌, ◌≤◌, ◌∷◌, ℕ, List, length, drop, slice_index_or, ◌==◌, nat_eq, IsDistinct, drop_more, length-map, position, position-Some, Some, Cell, SignalAt, IsHeld, planned_of, few_signals, SignalValues, signal_values_at, entries_of, signal_values_of, most_signals, HasColumns, ◌*◌, ◌^◌, ◌%◌, short_table}
use Rattle.rinex_file.proofs.write.satellite.put_cells.Goals.{After-list-signals, else-id-via-else-id, else-id-via-then-id+in-None-1}
use Rattle.rinex_file.proofs.write.satellite.put_cells.Goals as goal

more : (cells : List Cell) (at : ℕ) (cell : Cell) → 0 < at → at ≤ length cells → cell ≡ slice_index_or cells (at - 1) cell → drop (at - 1) cells ≡ cell ∷ drop at cells
more cells at cell some within is = grind (arith, drop_more)

few : (c : After-list-signals) → length (planned_of c.args.system c.args.plan.now) ≤ most_signals
few c =
    let own = length-map c.list-signals.result.now (λ (s : SignalAt). s.index) in
    let most = few_signals c.args.system _ c.list-signals.ensures.system in
    omega (arith, ap length c.list-signals.ensures.indices, own, most, short_table c.args.system)

in_plan : (index : ℕ) {signals planned : List ℕ} {p : ℕ} → signals ≡ planned → position (λ i. i == index) signals ≡ Some p → position (λ i. i == index) planned ≡ Some p
in_plan index {signals} {planned} {p} is at = subst (λ l. position (λ i. i == index) l ≡ Some p) is at

placed : (index : ℕ) (signals : List ℕ) (p : ℕ) → length signals ≤ most_signals → position (λ i. i == index) signals ≡ Some p → p < most_signals
placed index signals p most is = let (within, here, none) = position-Some (λ i. i == index) signals p 0 is in omega (arith, within, most)

pub loop-at-init : goal.loop-at-init
loop-at-init c = record { columns = λ used h. no_cells c.args.cells.now c.args.id (planned_of c.args.system c.args.plan.now) (few c) h; front = refl; within = omega arith; few = omega arith }

pub put_columns-requires-clause-few : goal.put_columns-requires-clause-few
put_columns-requires-clause-few c = placed c.index-cells-at.result.signal.index _ c.in-Some.place (few ((goal.at.put_columns-requires-clause-few c).After-list-signals)) (in_plan c.index-cells-at.result.signal.index c.list-signals.ensures.indices (sym c.place.ensures ∙ c.in-Some.is))

pub overflow_shl-own : goal.overflow_shl-own
overflow_shl-own c = grind (arith, c.list-signals.ensures.indices, c.place.ensures, c.in-Some.is, placed, few, in_plan)

pub loop-at-preserved-in-loop-at : goal.loop-at-preserved-in-loop-at
loop-at-preserved-in-loop-at c =
    let cells = c.args.cells.now in
    let at = c.loop-at.at in
    let id = c.args.id in
    let cell = c.index-cells-at.result in
    let p = c.in-Some.place in
    let inv = c.loop-at.invariant in
    let rest = drop at cells in
    let signals = planned_of c.args.system c.args.plan.now in
    let some : 0 < at = omega (arith, c.loop-at-test.true) in
    let held = subst (IsHeld c.args.system) (sym c.index-cells-at.is) (c.requires.each (at - 1) cell (omega (arith, some, inv.within))) in
    let own : cell.satellite.id ≡ id = grind (arith, c.if-id.true, c.id.ensures.value) in
    let apart = subst (IsDistinct nat_eq) c.list-signals.ensures.indices c.list-signals.ensures.system.apart in
    let place = in_plan c.index-cells-at.result.signal.index c.list-signals.ensures.indices (sym c.place.ensures ∙ c.in-Some.is) in
    let (within, here, none) = position-Some (λ i. i == cell.signal.index) signals p 0 place in
    let size = length-map signals (signal_values_at rest id) in
    let most = few ((goal.at.loop-at-preserved-in-loop-at c).After-list-signals) in
    let put = cell_put signals id p cell rest apart place own in
    record {
      columns = λ used h. subst (λ (xs : List Cell). HasColumns used (bit_or c.loop-at.own (1 * 2 ^ p % 2 ^ 64)) (entries_of c.args.plan.now c.args.system id xs) c.put_columns.new.row)
          (sym (more cells at cell some inv.within c.index-cells-at.is))
          (value_put (signal_values_of cell) (held_fits c.args.system cell held) (omega (arith, size, within)) put c.put_columns.ensures.columns (inv.columns used h));
      front = c.put_columns.ensures.front ∙ inv.front;
      within = omega (arith, inv.within);
      few = few_with c.loop-at.own p inv.few (omega (arith, within, most));
    }

pub loop-at-preserved : goal.loop-at-preserved
loop-at-preserved c =
    let cells = c.args.cells.now in
    let at = c.loop-at.at in
    let id = c.args.id in
    let cell = c.index-cells-at.result in
    let inv = c.loop-at.invariant in
    let rest = drop at cells in
    let signals = planned_of c.args.system c.args.plan.now in
    let same : entries_of c.args.plan.now c.args.system id (cell ∷ rest) ≡ entries_of c.args.plan.now c.args.system id rest = elim c.else-id.branch [
      | else-id-via-else-id w ↦
          other_stays cell rest id signals (grind (arith, w, c.id.ensures.value))
      | else-id-via-then-id+in-None-1 w ↦
          no_place cell.signal.index signals (signal_values_at (cell ∷ rest) id) (signal_values_at rest id) (grind (arith, w)) (others_stay cell rest id)
    ] in
    record {
      columns = λ used h. subst (λ (xs : List SignalValues). HasColumns used c.loop-at.own xs c.loop-at.row)
          (sym (ap (entries_of c.args.plan.now c.args.system id) (more cells at cell (omega (arith, c.loop-at-test.true)) inv.within c.index-cells-at.is) ∙ same)) (inv.columns used h);
      front = inv.front;
      within = omega (arith, inv.within);
      few = inv.few;
    }
