use Rattle.std.proofs.Common.{◌≡◌, ◌+◌, ◌≤◌, drop}
use Rattle.gnss_obs.proofs.GroupLaws.{counted_after}
use Rattle.gnss_obs.proofs.epoch.written.Given as goal

abbrev pub invariant-loop-i : goal.invariant-loop-i
invariant-loop-i l = (l.count + counted_after l.last (drop l.i l.cells) ≡ counted_after 0 l.cells) × (l.count ≤ l.i)
