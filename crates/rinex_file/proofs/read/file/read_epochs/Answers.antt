use Rattle.rinex_file.proofs.Reading.Accepted.{begins_is, not_pushed, whole_header}
use Rattle.rinex_file.proofs.Reading.Lines.{explained, out_of_memory}
use Rattle.rinex_file.proofs.Names.{failed_read, fine_read, more_read, none_read, arith, common_steps, subst, sym, List, HasReadEpochs, Stamped, err_from_is_err_and}
use Rattle.rinex_file.proofs.read.file.read_epochs.Goals as goal

pub loop-summary-init : goal.loop-summary-init
loop-summary-init g c = record {
  read =
      let input = g.R.Read.remaining c.args.reader.now.inner in
      subst (λ (es : List Stamped). HasReadEpochs c.args.file.now es input input) (sym c.requires.none) (c.requires.start input);
  reads = none_read _ _;
}

pub read_rows-requires : goal.read_rows-requires
read_rows-requires g c =
    let read = c.loop-summary.invariant.read in
    let (start, times, part, line, counted, kept) = begins_is c.loop-summary.file c.begin.new.self _ _ (g.R.Read.remaining c.begin.new.reader.inner) c.in-Epoch.is (c.in_ok-begin.ensures.epochs _ _ read) in
    (c.loop-summary.epochs.items, _, part)

pub loop-summary-smaller : goal.loop-summary-smaller
loop-summary-smaller g c =
    let read = c.loop-summary.invariant.read in
    let (start, times, part, line, counted, kept) = begins_is c.loop-summary.file c.begin.new.self _ _ (g.R.Read.remaining c.begin.new.reader.inner) c.in-Epoch.is (c.in_ok-begin.ensures.epochs _ _ read) in
    let (whole, most) = c.in_ok-rows.ensures.rows _ _ part in
    omega (arith, counted, most, read.0.within.1)

pub loop-summary-preserved : goal.loop-summary-preserved
loop-summary-preserved g c =
    let inv = c.loop-summary.invariant in
    let (start, times, part, line, counted, kept) = begins_is c.loop-summary.file c.begin.new.self _ _ (g.R.Read.remaining c.begin.new.reader.inner) c.in-Epoch.is (c.in_ok-begin.ensures.epochs _ _ inv.read) in
    let (whole, most) = c.in_ok-rows.ensures.rows _ _ part in
    record {
      read = grind (arith, common_steps, whole, c.push.ensures, c.is_err.ensures, c.if-is_err.false);
      reads = more_read (more_read inv.reads c.in_ok-begin.ensures.reads) c.in_ok-rows.ensures.reads;
    }

pub returns-in-End-clause-epochs : goal.returns-in-End-clause-epochs
returns-in-End-clause-epochs g c =
    let (has, only, kept) = begins_is c.loop-summary.file c.begin.new.self _ _ (g.R.Read.remaining c.begin.new.reader.inner) c.in-End.is (c.in_ok-begin.ensures.epochs _ _ c.loop-summary.invariant.read) in
    (has, only)

pub returns-in-End-clause-reads : goal.returns-in-End-clause-reads
returns-in-End-clause-reads g c = fine_read _ (λ e. cc) (more_read c.loop-summary.invariant.reads c.in_ok-begin.ensures.reads)

pub returns-in_err-begin-clause-epochs : goal.returns-in_err-begin-clause-epochs
returns-in_err-begin-clause-epochs g c =
    let p = err_from_is_err_and c.from_residual.result c.from_residual.ensures.1 in
    rw (p.1, p.2) (explained (c.in_err-begin.ensures.epochs _ _ c.loop-summary.invariant.read).0)

pub returns-in_err-begin-clause-reads : goal.returns-in_err-begin-clause-reads
returns-in_err-begin-clause-reads g c = failed_read c.from_residual.result c.from_residual.ensures.1 c.loop-summary.invariant.reads c.in_err-begin.ensures.reads

pub returns-in_err-rows-clause-epochs : goal.returns-in_err-rows-clause-epochs
returns-in_err-rows-clause-epochs g c =
    let (start, times, part, line, counted, kept) = begins_is c.loop-summary.file c.begin.new.self _ _ (g.R.Read.remaining c.begin.new.reader.inner) c.in-Epoch.is (c.in_ok-begin.ensures.epochs _ _ c.loop-summary.invariant.read) in
    let p = err_from_is_err_and c.from_residual-in_err-rows.result c.from_residual-in_err-rows.ensures.1 in
    rw (p.1, p.2) (c.in_err-rows.ensures.rows _ _ part)

pub returns-in_err-rows-clause-reads : goal.returns-in_err-rows-clause-reads
returns-in_err-rows-clause-reads g c = failed_read c.from_residual-in_err-rows.result c.from_residual-in_err-rows.ensures.1 (more_read c.loop-summary.invariant.reads c.in_ok-begin.ensures.reads) c.in_err-rows.ensures.reads

pub returns-then-is_err-clause-epochs : goal.returns-then-is_err-clause-epochs
returns-then-is_err-clause-epochs g c =
    let (start, times, part, line, counted, kept) = begins_is c.loop-summary.file c.begin.new.self _ _ (g.R.Read.remaining c.begin.new.reader.inner) c.in-Epoch.is (c.in_ok-begin.ensures.epochs _ _ c.loop-summary.invariant.read) in
    let (whole, most) = c.in_ok-rows.ensures.rows _ _ part in
    out_of_memory _ (whole_header whole.0 (λ none rows. not_pushed _ _ none))

pub returns-then-is_err-clause-reads : goal.returns-then-is_err-clause-reads
returns-then-is_err-clause-reads g c = fine_read _ (λ e. cc) (more_read (more_read c.loop-summary.invariant.reads c.in_ok-begin.ensures.reads) c.in_ok-rows.ensures.reads)
