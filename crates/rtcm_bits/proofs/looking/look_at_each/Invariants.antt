use Rattle.rtcm_bits.proofs.Names.{◌≡◌, length, looked_through, counts_alone}
use Rattle.rtcm_bits.proofs.looking.look_at_each.Given as goal

abbrev pub invariant-loop-i : goal.invariant-loop-i
invariant-loop-i l = record {
  len : length l.counts ≡ length l.fn.counts;
  counts : l.counts ≡ (looked_through (counts_alone l.fn.counts l.greatest) l.start l.i).looks;
  most : l.most ≡ (looked_through (counts_alone l.fn.counts l.greatest) l.start l.i).most;
}
