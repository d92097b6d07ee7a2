use Rattle.rinex_file.proofs.Names.{HasReadOn, ◌-◌, ◌+◌, HasReadEpochs, most_lines}
use Rattle.rinex_file.proofs.read.file.read_epochs.Given as goal

-- the epochs that were read are stored
abbrev pub invariant-loop-summary : goal.invariant-loop-summary
invariant-loop-summary g l =
    let remaining = g.R.Read.remaining in
    record {
      read : HasReadEpochs l.file l.epochs.items (remaining l.fn.reader.inner) (remaining l.reader.inner);
      reads : HasReadOn remaining l.fn.reader l.reader;
    }

abbrev pub decreases-loop-summary : goal.decreases-loop-summary
decreases-loop-summary g l = most_lines + 1 - l.file.count
