use Rattle.rtcm_msg.proofs.Names.{◌≡◌, take}
use Rattle.rtcm_msg.proofs.msm.satellite_numbers.Given as goal

abbrev pub invariant-loop-i : goal.invariant-loop-i
invariant-loop-i l = l.numbers.items ≡ take l.i l.view.msm.satellites
