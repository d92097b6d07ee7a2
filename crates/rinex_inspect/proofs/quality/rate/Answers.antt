use Rattle.rinex_inspect.proofs.Names.{passed, ◌*◌, ◌<◌, ℕ, List, subst, sym, printed_after, devices_of, writer_of, EndsPrinting, week, weeks, plan_of, IfSome, IfSome_then, times_in, lines_before, last_of, Write, end_text, RatesFiles, rules}
use Rattle.rinex_inspect.proofs.EndLemmas.{ended, ended_early_or, ended_or}
use Rattle.rinex_inspect.proofs.PeriodLemmas.{start_within}
use Rattle.rinex_inspect.proofs.quality.rate.Goals as goal

pub print_end-requires-clause-within : goal.print_end-requires-clause-within
print_end-requires-clause-within g c =
    let (es, has, only, tables, printed, fine, fits, output) = c.in_ok-counts.ensures.0 in
    subst (λ (p : ℕ). IfSome c.args.every.now (λ n. p * n < weeks * week)) (sym tables.period) (start_within c.args.every.now (last_of (times_in es)) tables.interval)

pub returns : goal.returns
returns g c =
    let at = devices_of g.R.Read.remaining g.W.Write.contents g.W.Deliver.waiting in
    let w = writer_of g.W.Write.contents g.W.Deliver.waiting in
    let (es, has, only, tables, printed, fine, fits, output) = c.in_ok-counts.ensures.0 in
    let plan = plan_of c.print_periods.new.file in
    record {
      ends = ended c.args.every.now (at c.args.reader.now c.args.writer.now) (at c.print_periods.new.reader c.print_end.new.writer) c.print_end.result has.v has.is has.text fine
          (subst (λ (l : List ℕ). EndsPrinting Write c.print_end.result l (w c.args.writer.now) (w c.print_end.new.writer)) (sym (output has.v has.holds))
          (printed_after Write c.print_end.result (w c.args.writer.now) (w c.print_periods.new.writer) (w c.print_end.new.writer) (lines_before plan c.args.every.now es) (end_text c.args.every.now plan c.print_periods.new.tables has.v) printed (c.print_end.ensures has.v has.holds.0 printed.1)));
      left = search rules;
      only = λ v file few. IfSome_then (g.R.Read.remaining c.args.reader.now.inner) (only v file few) (λ input h same. let rated = h same in
          ended_or c.args.every.now (w c.args.writer.now) (w c.print_end.new.writer) c.print_end.result v
          (subst (λ (l : List ℕ). EndsPrinting Write c.print_end.result l (w c.args.writer.now) (w c.print_end.new.writer)) (sym (output v rated))
          (printed_after Write c.print_end.result (w c.args.writer.now) (w c.print_periods.new.writer) (w c.print_end.new.writer) (lines_before plan c.args.every.now es) (end_text c.args.every.now plan c.print_periods.new.tables v) printed (c.print_end.ensures v rated.0 printed.1))));
    }

pub returns-in_err-counts : goal.returns-in_err-counts
returns-in_err-counts g c = record {
  ends = search rules;
  left = search rules;
  only =
      let at = devices_of g.R.Read.remaining g.W.Write.contents g.W.Deliver.waiting in
      let d = at c.args.reader.now c.args.writer.now in
      let d2 = at c.print_periods.new.reader c.print_periods.new.writer in
      passed c.from_residual.result _ (λ r. RatesFiles c.args.every.now r d d2) c.from_residual.ensures.1 (ended_early_or c.args.every.now c.print_periods.new.file c.print_periods.new.tables d d2 _ c.requires.tables.interval c.in_err-counts.ensures.0);
}
