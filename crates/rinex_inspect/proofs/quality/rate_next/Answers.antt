use Rattle.rinex_inspect.proofs.Names.{RatesNext, begun_in, passed, refl, devices_of}
use Rattle.rinex_file.proofs.ReaderLaws.{failed_read, fine_read, more_read, none_read}
use Rattle.rinex_inspect.proofs.GapLemmas.{begins_is}
use Rattle.rinex_inspect.proofs.RatingLemmas.{next_ended, next_rated, next_stopped}
use Rattle.rinex_inspect.proofs.quality.rate_next.Goals as goal

pub take_epoch-requires-clause-begun : goal.take_epoch-requires-clause-begun
take_epoch-requires-clause-begun g c =
    let (es, input, read, tables) = c.requires.read in
    let (start, times, part, line, less, keeps) = begins_is c.args.file.now c.begin.new.self es input (g.R.Read.remaining c.begin.new.reader.inner) c.in-Ok-Epoch.field-0-is (c.in-Ok-Epoch.ensures.epochs es input read) in
    (es, begun_in c.begin.new.self, input, (start, refl), part, tables)

pub returns-in_ok-take_epoch-in-Ok-Epoch-clause-rates : goal.returns-in_ok-take_epoch-in-Ok-Epoch-clause-rates
returns-in_ok-take_epoch-in-Ok-Epoch-clause-rates g c = λ es input read tables.
    let at = devices_of g.R.Read.remaining g.W.Write.contents g.W.Deliver.waiting in
    let (start, times, part, line, less, keeps) = begins_is c.args.file.now c.begin.new.self es input (g.R.Read.remaining c.begin.new.reader.inner) c.in-Ok-Epoch.field-0-is (c.in-Ok-Epoch.ensures.epochs es input read) in
    next_rated c.args.every.now c.args.file.now c.begin.new.self c.take_epoch.new.file c.args.tables.now c.take_epoch.new.tables es c.in-Ok-Epoch.time input (at c.begin.new.reader c.args.writer.now) (at c.args.reader.now c.args.writer.now) (at c.take_epoch.new.reader c.take_epoch.new.writer) less keeps refl
    (c.in_ok-take_epoch-in-Ok-Epoch.ensures.rates es _ input (start, refl) part tables)

pub returns-in_ok-take_epoch-in-Ok-Epoch-clause-reads : goal.returns-in_ok-take_epoch-in-Ok-Epoch-clause-reads
returns-in_ok-take_epoch-in-Ok-Epoch-clause-reads g c = fine_read _ (λ e. cc) (more_read (more_read (none_read _ _) c.in-Ok-Epoch.ensures.reads) c.in_ok-take_epoch-in-Ok-Epoch.ensures.reads)

pub returns-in_err-take_epoch-in-Ok-Epoch-clause-rates : goal.returns-in_err-take_epoch-in-Ok-Epoch-clause-rates
returns-in_err-take_epoch-in-Ok-Epoch-clause-rates g c = λ es input read tables.
    let at = devices_of g.R.Read.remaining g.W.Write.contents g.W.Deliver.waiting in
    let d = at c.args.reader.now c.args.writer.now in
    let d2 = at c.take_epoch.new.reader c.take_epoch.new.writer in
    let (start, times, part, line, less, keeps) = begins_is c.args.file.now c.begin.new.self es input (g.R.Read.remaining c.begin.new.reader.inner) c.in-Ok-Epoch.field-0-is (c.in-Ok-Epoch.ensures.epochs es input read) in
    passed c.from_residual.result _ (λ r. RatesNext c.args.every.now c.args.file.now c.take_epoch.new.file c.args.tables.now c.take_epoch.new.tables es input r d d2) c.from_residual.ensures.1
    (next_stopped c.args.every.now c.args.file.now c.begin.new.self c.take_epoch.new.file c.args.tables.now c.take_epoch.new.tables es c.in-Ok-Epoch.time input (at c.begin.new.reader c.args.writer.now) d d2 _ keeps refl
    (c.in_err-take_epoch-in-Ok-Epoch.ensures.rates es _ input (start, refl) part tables))

pub returns-in_err-take_epoch-in-Ok-Epoch-clause-reads : goal.returns-in_err-take_epoch-in-Ok-Epoch-clause-reads
returns-in_err-take_epoch-in-Ok-Epoch-clause-reads g c = failed_read c.from_residual.result c.from_residual.ensures.1 (more_read (none_read _ _) c.in-Ok-Epoch.ensures.reads) c.in_err-take_epoch-in-Ok-Epoch.ensures.reads

pub returns-in-Ok-End-clause-rates : goal.returns-in-Ok-End-clause-rates
returns-in-Ok-End-clause-rates g c = λ es input read tables.
    let at = devices_of g.R.Read.remaining g.W.Write.contents g.W.Deliver.waiting in
    next_ended c.args.every.now c.args.file.now c.begin.new.self c.args.tables.now es input (g.R.Read.remaining c.begin.new.reader.inner) c.in-Ok-End.summary (at c.args.reader.now c.args.writer.now) (at c.begin.new.reader c.args.writer.now) refl
    (begins_is c.args.file.now c.begin.new.self es input (g.R.Read.remaining c.begin.new.reader.inner) c.in-Ok-End.field-0-is (c.in-Ok-End.ensures.epochs es input read))

pub returns-in-Err-clause-rates : goal.returns-in-Err-clause-rates
returns-in-Err-clause-rates g c = λ es input read tables. ((c.in-Err.ensures.epochs es input read).0, refl)
