use Rattle.rinex_inspect.proofs.Names.{◌≡◌, ◌≤◌, count_by, below, has_values, total, tally_at}
use Rattle.rinex_inspect.proofs.quality_lines.total_of.Given as goal

abbrev pub invariant-loop-i : goal.invariant-loop-i
invariant-loop-i l = record {
  number : l.satellites ≡ count_by (λ i. has_values (tally_at l.records l.k i)) (below l.i);
  bound : l.satellites ≤ l.i;
  total : l.total ≡ total (tally_at l.records l.k) l.i;
}
