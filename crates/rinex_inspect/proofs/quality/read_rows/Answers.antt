use Rattle.rinex_inspect.proofs.Names.{◌∙◌, ◌++◌, ◌∷◌, [], ap, arith, refl, sym, subst, Ok, SatelliteRow, row_of, with_read, Table, HasAddedRow, IsTableOf}
use Rattle.rinex_file.proofs.ReaderLaws.{fine_read, more_read, none_read}
use Rattle.rinex_inspect.proofs.GapLemmas.{file_read}
use Rattle.rinex_inspect.proofs.RatingLemmas.{few_epochs, row_is, row_step}
use Rattle.rinex_inspect.proofs.TableSteps.{table_begun}
use Rattle.rinex_inspect.proofs.quality.read_rows.Goals as goal

pub loop-table-init : goal.loop-table-init
loop-table-init g c = record {
  read = λ es e input start rows. (
    e,
    start.0,
    rows,
    omega arith,
    refl,
    λ xs few is.
        subst (λ (t : Table). IsTableOf t (xs ++ e ∷ [])) (sym c.begin.ensures)
        (table_begun c.args.table.now xs e (few_epochs c.args.file.now es e input _ xs rows few) start.1 start.0 is),
  );
  some = c.requires;
  reads = none_read _ _;
}

pub loop-table-preserved : goal.loop-table-preserved
loop-table-preserved g c =
    let inv = c.loop-table.invariant in
    record {
      read = λ es e input start rows.
          let (more, time, part, least, plan, added) = inv.read es e input start rows in
          let (next, fits, counted, same) = row_is c.loop-table.file c.next_row.new.self es more input (g.R.Read.remaining c.next_row.new.reader.inner) (ap Ok c.in-Ok-true.field-0-test) (c.in-Ok-true.ensures.rows es more input part) in
          let row : SatelliteRow = row_of c.next_row.new.self in
          let add : HasAddedRow row c.loop-table.table c.add.new.self = subst (λ (r : SatelliteRow). HasAddedRow r c.loop-table.table c.add.new.self) c.row.ensures c.add.ensures in
          (with_read more row, time, next, omega (arith, least, counted), same ∙ plan, λ xs few is. row_step c.next_row.new.self es more input (g.R.Read.remaining c.next_row.new.reader.inner) row xs c.loop-table.table c.add.new.self next fits few add (added xs few is));
      some = inv.some;
      reads = more_read inv.reads c.in-Ok-true.ensures.reads;
    }

pub returns-in-Ok-false-clause-reads : goal.returns-in-Ok-false-clause-reads
returns-in-Ok-false-clause-reads g c = fine_read _ (λ e. cc) (more_read c.loop-table.invariant.reads c.in-Ok-false.ensures.reads)

pub returns-in-Err-clause-reads : goal.returns-in-Err-clause-reads
returns-in-Err-clause-reads g c = file_read c.loop-table.invariant.reads c.in-Err.ensures.reads
