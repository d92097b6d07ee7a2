use Rattle.rinex_file.proofs.Names.{◌≡◌, ◌≤◌, array_vec_len}
use Rattle.rinex_file.proofs.read.row.resize.Given as goal

-- the list has this length, which isn't more than is wanted
abbrev pub invariant-loop : goal.invariant-loop
invariant-loop l = (array_vec_len l.values ≡ l.counter) × (l.counter ≤ l.signals)
