use Rattle.gnss_obs.proofs.Names.{◌≡◌, ◌+◌, ◌≤◌, drop, length, run}
use Rattle.gnss_obs.proofs.epoch.end_of.Given as goal

-- The cells so far are of that satellite.
abbrev pub invariant-loop-at : goal.invariant-loop-at
invariant-loop-at l = (l.at + run l.id (drop l.at l.cells) ≡ l.from + run l.id (drop l.from l.cells)) × (l.at ≤ length l.cells)
