use Rattle.rinex_file.proofs.ReaderLaws.{leaves_all}
use Rattle.rinex_inspect.proofs.Names.{Write, printed_after, printed_later, AreInside, Completeness, FileSummary, FileValue, EpochReader, IsSummaryRead, EndsCheck, passed, Option, Stamped, subst, sym, ◌++◌, ap, List, ℕ, IfSome_then, devices_of, gaps_if, times_in, writer_of, AcceptsFiles, rules}
use Rattle.rinex_inspect.proofs.CheckLemmas.{checked, checked_or, kept_first, where_known}
use Rattle.rinex_inspect.proofs.GapLemmas.{gaps_refused, gaps_stopped, whole_output}
use Rattle.rinex_inspect.proofs.check.run_check_with.Goals as goal

-- the epochs of a file that was read are inside of the window
inside_of : (r : EpochReader) {s : FileSummary} {es : List Stamped} {v : FileValue} (complete : Option Completeness) → AreInside complete (times_in es) → IsSummaryRead r es s v → AreInside complete (times_in v.epochs)
inside_of r complete inside is = subst (λ (l : List Stamped). AreInside complete (times_in l)) (sym (ap (λ (f : FileValue). f.epochs) is.1)) inside

pub returns-in_err-deliver_waiting : goal.returns-in_err-deliver_waiting
returns-in_err-deliver_waiting g c = record {
  ends = search rules;
  left = leaves_all _;
  only = λ v is few.
      let end = c.in_err-deliver_waiting.ensures in
      where_known _ (g.R.Read.remaining c.args.reader.now.inner) (λ input same. kept_first c.args.options _ _ c.from_residual.result v c.from_residual.ensures.1 end.0 end.2);
}

pub returns : goal.returns
returns g c =
    let (es, found, only, printed, same, counts, inside) = c.in_ok-summary.ensures.0 in
    let at = devices_of g.R.Read.remaining g.W.Write.contents g.W.Deliver.waiting in
    let w = writer_of g.W.Write.contents g.W.Deliver.waiting in
    record {
      ends = checked c.args.options (at c.args.reader.now c.args.writer.now) (at c.print_gaps-read.new.reader c.print_text.new.writer) c.print_text.result
          (found.v, found.is, found.text, inside_of c.print_gaps-read.new.file c.args.options.complete inside found.holds, whole_output c.print_gaps-read.new.file c.args.options _ found.v es _ found.holds found.is counts c.summary_text-text.ensures) same
          (printed_later Write c.print_text.result (w c.deliver_waiting.new.writer) (w c.print_text.new.writer) c.in_ok-deliver_waiting.ensures (ap (λ (t : List ℕ). gaps_if c.args.options.complete (times_in es) ++ t) c.as_bytes.ensures.text)
          (printed_after Write c.print_text.result (w c.deliver_waiting.new.writer) (w c.print_gaps-read.new.writer) (w c.print_text.new.writer) (gaps_if c.args.options.complete (times_in es)) _ printed c.print_text.ensures));
      left = c.in_ok-summary.ensures.1;
      only = λ v is few. IfSome_then (g.R.Read.remaining c.args.reader.now.inner) (only v is few)
          (λ input h text. checked_or {w = w c.args.writer.now} {w2 = w c.print_text.new.writer} c.args.options c.print_text.result v (inside_of c.print_gaps-read.new.file c.args.options.complete inside (h text)) (whole_output c.print_gaps-read.new.file c.args.options _ v es _ (h text) is counts c.summary_text-text.ensures)
          (printed_later Write c.print_text.result (w c.deliver_waiting.new.writer) (w c.print_text.new.writer) c.in_ok-deliver_waiting.ensures (ap (λ (t : List ℕ). gaps_if c.args.options.complete (times_in es) ++ t) c.as_bytes.ensures.text)
          (printed_after Write c.print_text.result (w c.deliver_waiting.new.writer) (w c.print_gaps-read.new.writer) (w c.print_text.new.writer) (gaps_if c.args.options.complete (times_in es)) _ printed c.print_text.ensures)));
    }

pub returns-in_err-summary : goal.returns-in_err-summary
returns-in_err-summary g c =
    let at = devices_of g.R.Read.remaining g.W.Write.contents g.W.Deliver.waiting in
    let d = at c.args.reader.now c.args.writer.now in
    let d2 = at c.print_gaps-read.new.reader c.print_gaps-read.new.writer in
    record {
      ends = passed c.from_residual-in_err-summary.result _ (λ r. EndsCheck c.args.options r d d2) c.from_residual-in_err-summary.ensures.1
          (gaps_stopped c.print_gaps-read.new.file c.args.options d d2 (writer_of g.W.Write.contents g.W.Deliver.waiting c.deliver_waiting.new.writer) _ c.in_ok-deliver_waiting.ensures c.in_err-summary.ensures.0);
      left = c.in_err-summary.ensures.1;
      only = passed c.from_residual-in_err-summary.result _ (λ r. AcceptsFiles c.args.options r d d2) c.from_residual-in_err-summary.ensures.1
          (λ v is few. gaps_refused c.print_gaps-read.new.file c.args.options d d2 (writer_of g.W.Write.contents g.W.Deliver.waiting c.deliver_waiting.new.writer) _ v is few c.in_ok-deliver_waiting.ensures c.in_err-summary.ensures.0);
    }
