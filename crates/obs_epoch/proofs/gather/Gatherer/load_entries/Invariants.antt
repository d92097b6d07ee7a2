use Rattle.obs_epoch.proofs.Names.{◌≡◌, ◌+◌, ◌≤◌, true, length, time_in, cells_counted, no_counts, load_entries}
use Rattle.obs_epoch.proofs.gather.Gatherer.load_entries.Given as goal

abbrev pub invariant-loop-entry : goal.invariant-loop-entry
invariant-loop-entry g l = record {
  form : l.form ≡ l.fn.cells.form;
  same : load_entries l.fn.cells.form l.system (record { state = l.self; counts = l.n }) l.cells.left
      ≡ load_entries l.fn.cells.form l.system (record { state = l.fn.self; counts = no_counts }) l.fn.cells.left;
  pending : l.self.clock.pending ≡ true;
  time : l.time ≡ time_in l.self.clock;
  cells : l.cells.form ≡ l.fn.cells.form;
  counted : cells_counted l.n + length l.cells.left ≤ 64;
  less : l.n.without_channel ≤ l.n.kept;
}

abbrev pub decreases-loop-entry : goal.decreases-loop-entry
decreases-loop-entry g l = length l.cells.left
