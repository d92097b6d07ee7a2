use Rattle.rinex_inspect.proofs.Names.{◌++◌, ◌∷◌, [], arith, refl, subst, sym, Ok, ⊤, Appends-nil, devices_of, writer_of, plan_of, Appends, passed, RatesPeriods}
use Rattle.rinex_file.proofs.ReaderLaws.{leaves_more, more_read, none_read}
use Rattle.rinex_inspect.proofs.GapLemmas.{reader_failed}
use Rattle.rinex_inspect.proofs.RatingLemmas.{all_rated, next_is, none_before, printed_with, stopped_periods}
use Rattle.rinex_inspect.proofs.quality.print_periods.Goals as goal

pub loop-counts-init : goal.loop-counts-init
loop-counts-init g c = record { read = ([], c.requires.start _, c.requires.tables, (refl, c.requires.sent, subst (Appends _ _) (sym (none_before c.args.every.now (plan_of c.args.file.now) c.requires.tables.interval)) (Appends-nil _))); reads = none_read _ _ }

pub loop-counts-smaller : goal.loop-counts-smaller
loop-counts-smaller g c =
    let at = devices_of g.R.Read.remaining g.W.Write.contents g.W.Deliver.waiting in
    let (es, read, tables, printed) = c.loop-counts.invariant.read in
    let input = g.R.Read.remaining c.args.reader.now.inner in
    let (whole, next, less, keeps, tables2, more) = next_is c.args.every.now c.loop-counts.file c.rate_next.new.file c.loop-counts.tables c.rate_next.new.tables es input (at c.loop-counts.reader c.loop-counts.writer) (at c.rate_next.new.reader c.rate_next.new.writer) c.in_default.is (c.in_ok-counts.ensures.rates es input read tables) in
    let few = read.0.within.1 in
    omega (arith, less, few)

pub loop-counts-preserved : goal.loop-counts-preserved
loop-counts-preserved g c =
    let at = devices_of g.R.Read.remaining g.W.Write.contents g.W.Deliver.waiting in
    let w = writer_of g.W.Write.contents g.W.Deliver.waiting in
    let inv = c.loop-counts.invariant in
    let (es, read, tables, printed) = inv.read in
    let input = g.R.Read.remaining c.args.reader.now.inner in
    let (whole, next, less, keeps, tables2, (text, after, more)) = next_is c.args.every.now c.loop-counts.file c.rate_next.new.file c.loop-counts.tables c.rate_next.new.tables es input (at c.loop-counts.reader c.loop-counts.writer) (at c.rate_next.new.reader c.rate_next.new.writer) c.in_default.is (c.in_ok-counts.ensures.rates es input read tables) in
    record {
      read = (es ++ whole ∷ [], next, tables2, printed_with {A = ⊤} c.args.every.now (plan_of c.loop-counts.file) (plan_of c.rate_next.new.file) es whole text (Ok tt) (w c.args.writer.now) (w c.loop-counts.writer) (w c.rate_next.new.writer) tables.interval keeps after printed more);
      reads = more_read inv.reads c.in_ok-counts.ensures.reads;
    }

pub returns-in-Some : goal.returns-in-Some
returns-in-Some g c =
    let at = devices_of g.R.Read.remaining g.W.Write.contents g.W.Deliver.waiting in
    let inv = c.loop-counts.invariant in
    let (es, read, tables, printed) = inv.read in
    let input = g.R.Read.remaining c.args.reader.now.inner in (
      all_rated c.args.every.now c.loop-counts.file c.rate_next.new.file c.loop-counts.tables c.rate_next.new.tables es c.in-Some.counts (at c.args.reader.now c.args.writer.now) (at c.loop-counts.reader c.loop-counts.writer) (at c.rate_next.new.reader c.rate_next.new.writer) read tables printed
          (next_is c.args.every.now c.loop-counts.file c.rate_next.new.file c.loop-counts.tables c.rate_next.new.tables es input (at c.loop-counts.reader c.loop-counts.writer) (at c.rate_next.new.reader c.rate_next.new.writer) c.in-Some.is (c.in_ok-counts.ensures.rates es input read tables))
          (more_read inv.reads c.in_ok-counts.ensures.reads).same,
      (more_read c.loop-counts.invariant.reads c.in_ok-counts.ensures.reads).left,
    )

pub returns-in_err-counts : goal.returns-in_err-counts
returns-in_err-counts g c =
    let at = devices_of g.R.Read.remaining g.W.Write.contents g.W.Deliver.waiting in
    let inv = c.loop-counts.invariant in
    let (es, read, tables, printed) = inv.read in
    let input = g.R.Read.remaining c.args.reader.now.inner in
    let d = at c.args.reader.now c.args.writer.now in
    let d2 = at c.rate_next.new.reader c.rate_next.new.writer in (
      passed c.from_residual.result _ (λ r. RatesPeriods c.args.every.now c.rate_next.new.file c.rate_next.new.tables r d d2) c.from_residual.ensures.1
          (stopped_periods c.args.every.now c.loop-counts.file c.rate_next.new.file c.loop-counts.tables c.rate_next.new.tables es d (at c.loop-counts.reader c.loop-counts.writer) d2 c.in_err-counts.field-0.0 tables.interval read printed
          (c.in_err-counts.ensures.rates es input read tables)
          (reader_failed c.in_err-counts.field-0.0 inv.reads c.in_err-counts.ensures.reads)),
      leaves_more _ _ _ c.loop-counts.invariant.reads.left c.in_err-counts.ensures.reads.left,
    )
