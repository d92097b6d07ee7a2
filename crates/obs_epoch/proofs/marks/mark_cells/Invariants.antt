use Rattle.obs_epoch.proofs.Names.{◌≡◌, length, with_value_of, is_lost_in, cells_of}
use Rattle.obs_epoch.proofs.MarksLemmas.{mark_first}
use Rattle.obs_epoch.proofs.marks.mark_cells.Given as goal

-- The first cells are marked.
abbrev pub invariant-loop-i : goal.invariant-loop-i
invariant-loop-i l = record {
  end : l.i-end ≡ length (cells_of l.system l.fn.epoch.epoch);
  first : l.epoch ≡ record l.fn.epoch {
    epoch = record l.fn.epoch.epoch { cells = with_value_of l.system l.fn.epoch.epoch.cells (mark_first (is_lost_in l.marks) l.i (cells_of l.system l.fn.epoch.epoch)) };
  };
}
