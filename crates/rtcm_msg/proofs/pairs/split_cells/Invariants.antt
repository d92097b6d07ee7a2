use Rattle.rtcm_msg.proofs.Names.{ℕ, ◌≡◌, ◌≤◌, length, uint, chosen, pairs_left, ArePairs, IndicesAreBelow}
use Rattle.rtcm_msg.proofs.pairs.split_cells.Given as goal

abbrev pub invariant-loop-left : goal.invariant-loop-left
invariant-loop-left l = record {
  same : chosen (uint l.fn.left l.cells) (pairs_left l.fn.pairs) ≡ chosen (uint l.left l.cells) (pairs_left l.pairs);
  count : length (pairs_left l.pairs) ≡ l.left;
  few : l.left ≤ 64;
  in_range : ArePairs l.pairs;
  indices : (n : ℕ) → IndicesAreBelow n (pairs_left l.fn.pairs) → IndicesAreBelow n (pairs_left l.pairs);
}

abbrev pub decreases-loop-left : goal.decreases-loop-left
decreases-loop-left l = l.left
