use Rattle.obs_epoch.proofs.Names.{ℕ, ◌≡◌, ◌+◌, ◌<◌, ◌≤◌, length, get_or, entries, Msm, value_count, satellite_set}
use Rattle.obs_epoch.proofs.SignalNumbers.{Adds, IsAny}
use Rattle.obs_epoch.proofs.signal_counts.SignalCounts.count_msm.Given as goal

abbrev pub invariant-loop-id : goal.invariant-loop-id
invariant-loop-id l = record {
  adds : Adds l.fn.self l.self l.system l.counts.left l.counts.counts;
  any : IsAny l.system l.counts.left l.counts.counts l.any;
  numbers : (i : ℕ) → i < 32 → get_or l.counts.counts i 0 ≡ value_count (satellite_set l.system) (i + 1) (entries (Msm l.msm));
  few : (i : ℕ) → get_or l.counts.counts i 0 ≤ 64;
}

abbrev pub decreases-loop-id : goal.decreases-loop-id
decreases-loop-id l = length l.counts.left
