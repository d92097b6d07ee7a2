use Rattle.rinex_file.proofs.Names.{◌≡◌, ◌-◌, ◌≤◌, false, length, Consumes, prepend_known, LeavesRest, has, most_line}
use Rattle.rinex_file.proofs.read.lines.next_line.Given as goal

-- the bytes so far were consumed, no line feed is among them, and no read failed
abbrev pub invariant-loop-block : goal.invariant-loop-block
invariant-loop-block g l =
    let remaining = g.R.Read.remaining in
    record {
      taken : Consumes (prepend_known l.fn.block (remaining l.fn.reader.inner)) (prepend_known l.block (remaining l.reader.inner)) l.line.items;
      endless : has 10 l.line.items ≡ false;
      within : length l.line.items ≤ most_line;
      left : LeavesRest (remaining l.fn.reader.inner) (remaining l.reader.inner);
      same : l.reader.failures ≡ l.fn.reader.failures;
    }

abbrev pub decreases-loop-block : goal.decreases-loop-block
decreases-loop-block g l = most_line - length l.line.items
