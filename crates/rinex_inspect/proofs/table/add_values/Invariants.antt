use Rattle.rinex_inspect.proofs.Names.{◌≡◌, take, added}
use Rattle.rinex_inspect.proofs.table.add_values.Given as goal

abbrev pub invariant-loop-k : goal.invariant-loop-k
invariant-loop-k l = l.tallies ≡ added l.fn.tallies (take l.k l.values)
