use Rattle.rinex_file.proofs.Names.{HasWrittenBut, shown_by, joined, shown_text}
use Rattle.rinex_file.proofs.write.write_header.Given as goal

-- the lines so far were written
abbrev pub invariant-loop-line : goal.invariant-loop-line
invariant-loop-line g l =
    (goal.iterator-loop-line g).can_next l.line-iterator × (goal.iterator-loop-line g).is_finite l.line-iterator
    × HasWrittenBut g.W.Write.contents l.fn.writer l.writer (shown_text (shown_by l.head)) (joined l.line-iterator)
