use Rattle.rtcm_msg.proofs.Names.{◌≡◌, drop, first_of}
use Rattle.rtcm_msg.proofs.fault.first_of.Given as goal

abbrev pub invariant-loop-is_bad : goal.invariant-loop-is_bad
invariant-loop-is_bad l = first_of (drop l.is_bad-index l.fields) ≡ first_of l.fields
