use Rattle.rinex_file.proofs.Names.{◌-◌, row_count, SameFrom}
use Rattle.rinex_file.proofs.read.head_so_far.HeadSoFar.place_from.Given as goal

-- no row so far has a line
abbrev pub invariant-loop-place : goal.invariant-loop-place
invariant-loop-place l = SameFrom l.self l.line l.fn.from l.place

abbrev pub decreases-loop-place : goal.decreases-loop-place
decreases-loop-place l = row_count - l.place
