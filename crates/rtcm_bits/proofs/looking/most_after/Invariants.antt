use Rattle.rtcm_bits.proofs.Names.{◌≡◌, looked_through, counts_alone}
use Rattle.rtcm_bits.proofs.looking.most_after.Given as goal

abbrev pub invariant-loop-i : goal.invariant-loop-i
invariant-loop-i l = l.most ≡ (looked_through (counts_alone l.counts l.greatest) l.start l.i).most
