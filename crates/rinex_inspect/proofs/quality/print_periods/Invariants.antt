use Rattle.rinex_file.proofs.ReaderLaws.{HasReadOn}
use Rattle.rinex_inspect.proofs.Names.{◌-◌, ◌+◌, List, writer_of, PrintsText, most_lines, Stamped, HasReadEpochs, plan_of, lines_before, AreTables}
use Rattle.rinex_inspect.proofs.quality.print_periods.Given as goal

-- the lines of the periods before that of the last epoch were written
abbrev pub invariant-loop-counts : goal.invariant-loop-counts
invariant-loop-counts g l =
    let remaining = g.R.Read.remaining in
    let at = writer_of g.W.Write.contents g.W.Deliver.waiting in
    record {
      read : (es : List Stamped) × HasReadEpochs l.file es (remaining l.fn.reader.inner) (remaining l.reader.inner) × AreTables l.every l.tables es
          × PrintsText (lines_before (plan_of l.file) l.every es) (at l.fn.writer) (at l.writer);
      reads : HasReadOn remaining l.fn.reader l.reader;
    }

abbrev pub decreases-loop-counts : goal.decreases-loop-counts
decreases-loop-counts g l = most_lines + 1 - l.file.count
