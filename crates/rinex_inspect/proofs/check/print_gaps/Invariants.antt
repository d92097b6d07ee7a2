use Rattle.rinex_file.proofs.ReaderLaws.{HasReadOn}
use Rattle.rinex_inspect.proofs.Names.{◌+◌, ◌-◌, List, gaps_if, times_in, AreInside, CountsMissing, PrintsText, Stamped, HasReadEpochs, most_lines, writer_of}
use Rattle.rinex_inspect.proofs.check.print_gaps.Given as goal

-- the gaps of the epochs that were read were written
abbrev pub invariant-loop-before : goal.invariant-loop-before
invariant-loop-before g l =
    let remaining = g.R.Read.remaining in
    let at = writer_of g.W.Write.contents g.W.Deliver.waiting in
    record {
      read : (es : List Stamped) × HasReadEpochs l.file es (remaining l.fn.reader.inner) (remaining l.reader.inner)
          × PrintsText (gaps_if l.complete (times_in es)) (at l.fn.writer) (at l.writer)
          × CountsMissing l.complete (times_in es) l.missing × AreInside l.complete (times_in es);
      reads : HasReadOn remaining l.fn.reader l.reader;
    }

abbrev pub decreases-loop-before : goal.decreases-loop-before
decreases-loop-before g l = most_lines + 1 - l.file.count
