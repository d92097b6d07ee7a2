use Rattle.obs_epoch.proofs.Names.{◌≡◌, map, value_of, Passed, is_lost_in, mark_if}
use Rattle.obs_epoch.proofs.marks.mark_systems.Given as goal

-- The cells of the systems so far are marked.
abbrev pub invariant-loop-i : goal.invariant-loop-i
invariant-loop-i l = record {
  cells : Passed (λ s cells. cells ≡ map (mark_if (is_lost_in l.marks)) (value_of s l.fn.epoch.epoch.cells)) (λ s cells. cells ≡ value_of s l.fn.epoch.epoch.cells) l.epoch.epoch.cells l.i;
  rest : l.epoch ≡ record l.fn.epoch { epoch = record l.fn.epoch.epoch { cells = l.epoch.epoch.cells } };
}
