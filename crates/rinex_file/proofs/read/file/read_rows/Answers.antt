use Rattle.rinex_file.proofs.Reading.Accepted.{not_pushed, row_header, row_is}
use Rattle.rinex_file.proofs.Reading.Lines.{out_of_memory}
use Rattle.rinex_file.proofs.Names.{failed_read, fine_read, more_read, ap, arith, common_steps, Ok, read_row}
use Rattle.rinex_file.proofs.read.file.read_rows.Goals as goal

pub loop-rows-preserved : goal.loop-rows-preserved
loop-rows-preserved g c =
    let inv = c.loop-rows.invariant in
    record {
      read = λ es input before.
          let (part, least) = inv.read es input before in
          let (next, fits, counted, same) = row_is c.loop-rows.file c.next_row.new.self es _ input (g.R.Read.remaining c.next_row.new.reader.inner) (ap Ok c.if-branch.true) (c.in_ok-next_row.ensures.rows es _ input part) in
          (grind (arith, common_steps, next, c.row.ensures, c.store_row.ensures, c.is_err.ensures, c.if-is_err.false), omega (arith, counted, least));
      some = inv.some;
      reads = more_read inv.reads c.in_ok-next_row.ensures.reads;
    }

pub returns-clause-reads : goal.returns-clause-reads
returns-clause-reads g c = fine_read _ (λ e. cc) (more_read c.loop-rows.invariant.reads c.in_ok-next_row.ensures.reads)

pub returns-in_err-next_row-clause-reads : goal.returns-in_err-next_row-clause-reads
returns-in_err-next_row-clause-reads g c = failed_read c.from_residual.result c.from_residual.ensures.1 c.loop-rows.invariant.reads c.in_err-next_row.ensures.reads

pub returns-then-is_err-clause-rows : goal.returns-then-is_err-clause-rows
returns-then-is_err-clause-rows g c = λ es input before.
    let (part, least) = c.loop-rows.invariant.read es input before in
    let (next, fits, counted, same) = row_is c.loop-rows.file c.next_row.new.self es _ input (g.R.Read.remaining c.next_row.new.reader.inner) (ap Ok c.if-branch.true) (c.in_ok-next_row.ensures.rows es _ input part) in
    out_of_memory _ (row_header c.next_row.new.self es _ input _ next (not_pushed c.loop-rows.rows.items (read_row c.next_row.new.self)))

pub returns-then-is_err-clause-reads : goal.returns-then-is_err-clause-reads
returns-then-is_err-clause-reads g c = fine_read _ (λ e. cc) (more_read c.loop-rows.invariant.reads c.in_ok-next_row.ensures.reads)
