use Rattle.rinex_file.proofs.Names.{HasReadOn, ◌-◌, ◌+◌, History, HasRead, most_lines}
use Rattle.rinex_file.proofs.read.file.check_file.Given as goal

-- a history was read
abbrev pub invariant-loop-file : goal.invariant-loop-file
invariant-loop-file g l =
    let remaining = g.R.Read.remaining in
    record {
      read : (h : History) × HasRead l.file h (remaining l.fn.reader.inner) (remaining l.reader.inner);
      reads : HasReadOn remaining l.fn.reader l.reader;
    }

abbrev pub decreases-loop-file : goal.decreases-loop-file
decreases-loop-file g l = most_lines + 1 - l.file.count
