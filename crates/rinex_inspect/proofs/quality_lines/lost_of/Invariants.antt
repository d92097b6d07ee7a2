use Rattle.rinex_inspect.proofs.Names.{◌≡◌, ◌≤◌, ◌*◌, ◌^◌, get_or, sum_by, below, no_tally}
use Rattle.rinex_inspect.proofs.quality_lines.lost_of.Given as goal

abbrev pub invariant-loop-k : goal.invariant-loop-k
invariant-loop-k l = record {
  sum : l.lost ≡ sum_by (λ k. (get_or l.signals k no_tally).lost) (below l.k);
  bound : l.lost ≤ l.k * 2 ^ 32;
}
