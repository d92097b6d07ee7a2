use Rattle.rinex_file.proofs.Names.{shown_by, ◌≡◌, lines_after}
use Rattle.rinex_file.proofs.header.head.place_from.Given as goal

-- the lines from here on are those that were left
abbrev pub invariant-loop-place : goal.invariant-loop-place
invariant-loop-place l = lines_after (shown_by l.head) l.fn.from ≡ lines_after (shown_by l.head) l.place
