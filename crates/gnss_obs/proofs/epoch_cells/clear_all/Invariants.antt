use Rattle.gnss_obs.proofs.Names.{◌≡◌, [], value_of, Passed}
use Rattle.gnss_obs.proofs.epoch_cells.clear_all.Given as goal

-- The systems so far have no cells.
abbrev pub invariant-loop-i : goal.invariant-loop-i
invariant-loop-i l = Passed (λ s cells. cells.value ≡ []) (λ s cells. cells.value ≡ (value_of s l.fn.cells).value) l.cells l.i
