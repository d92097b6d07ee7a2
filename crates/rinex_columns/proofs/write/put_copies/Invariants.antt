use Rattle.std.proofs.Common.{◌≡◌, ◌++◌, replicate}
use Rattle.rinex_columns.proofs.write.put_copies.Given as goal

-- this number of copies was appended
abbrev pub invariant-loop : goal.invariant-loop
invariant-loop g l = l.line.items ≡ l.fn.line.items ++ replicate l.counter l.fn.byte
