use Rattle.rinex_file.proofs.Reading.Accepted.{row_is}
use Rattle.rinex_file.proofs.Names.{failed_read, fine_read, more_read, ◌∙◌, ap, arith, Ok}
use Rattle.rinex_file.proofs.read.epochs.EpochReader.finish.Goals as goal

pub loop-preserved : goal.loop-preserved
loop-preserved g c =
    let inv = c.loop.invariant in
    record {
      read = λ es e input before.
          let (more, time, part, least, plan) = inv.read es e input before in
          let (next, fits, counted, same) = row_is c.loop.self c.next_row.new.self es more input (g.R.Read.remaining c.next_row.new.reader.inner) (ap Ok c.if-branch.true) (c.in_ok-next_row.ensures.rows es more input part) in
          (_, time, next, omega (arith, counted, least), same ∙ plan);
      some = inv.some;
      reads = more_read inv.reads c.in_ok-next_row.ensures.reads;
    }

pub returns-clause-reads : goal.returns-clause-reads
returns-clause-reads g c = fine_read _ (λ e. cc) (more_read c.loop.invariant.reads c.in_ok-next_row.ensures.reads)

pub returns-in_err-next_row-clause-reads : goal.returns-in_err-next_row-clause-reads
returns-in_err-next_row-clause-reads g c = failed_read c.from_residual.result c.from_residual.ensures.1 c.loop.invariant.reads c.in_err-next_row.ensures.reads
