use Rattle.rtcm_inspect.proofs.Names.{systems, earliest, ◌≡◌, ◌≤◌, drop, length}
use Rattle.rtcm_inspect.proofs.first_tows.FirstTows.earliest.Given as goal

abbrev pub invariant-loop-i : goal.invariant-loop-i
invariant-loop-i l = record {
  few : l.i ≤ length systems;
  first : l.first ≡ earliest l.set l.self.tows (drop l.i systems);
}

abbrev pub decreases-loop-i : goal.decreases-loop-i
decreases-loop-i l = l.i
