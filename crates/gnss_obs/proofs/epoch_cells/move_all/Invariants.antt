use Rattle.gnss_obs.proofs.Names.{◌≡◌, [], sorted_cells, value_of, planned_of, Passed}
use Rattle.gnss_obs.proofs.epoch_cells.move_all.Given as goal

-- The cells of the systems so far are moved, the others as they were.
abbrev pub invariant-loop-i : goal.invariant-loop-i
invariant-loop-i l = record {
  sorted : Passed (λ s cells. cells.value ≡ sorted_cells (planned_of s l.plan) (value_of s l.fn.cells).value) (λ s cells. cells ≡ value_of s l.fn.sorted) l.sorted l.i;
  rest : Passed (λ s cells. cells.value ≡ []) (λ s cells. cells.value ≡ (value_of s l.fn.cells).value) l.cells l.i;
}
