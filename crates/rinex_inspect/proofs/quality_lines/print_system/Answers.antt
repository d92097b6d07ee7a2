use Rattle.rinex_inspect.proofs.Names.{⊤, ◌∙◌, ◌+◌, ◌++◌, ap, arith, sym, subst, List, ℕ, Ok, Err, printed_after, writer_of, PrintsText, plan_of, texts_below, Write, line_at, system_lines, contents_in}
use Rattle.rinex_inspect.proofs.QualityTexts.{part_of_more}
use Rattle.rinex_inspect.proofs.SumLemmas.{texts_front, texts_more}
use Rattle.rinex_inspect.proofs.quality_lines.print_system.Goals as goal

pub loop-index-preserved : goal.loop-index-preserved
loop-index-preserved g c = λ sent.
    let at = writer_of g.W.Write.contents g.W.Deliver.waiting in
    let f : ℕ → List ℕ = line_at c.args.lines.now (plan_of c.args.rated.now.file.now) (contents_in c.args.rated.now.table.now) c.args.system in
    let i = c.loop-index.index in
    subst (λ (text : List ℕ). PrintsText text (at c.args.writer.now) (at c.print_if.new.writer)) (ap (λ (l : List ℕ). texts_below f i ++ l) c.line_at.ensures ∙ sym (texts_more f i))
    (printed_after {A = ⊤} Write (Ok tt) (at c.args.writer.now) (at c.loop-index.writer) (at c.print_if.new.writer) (texts_below f i) c.line_at.result (c.loop-index.invariant sent) (c.in_ok-print_if.ensures (c.loop-index.invariant sent).1))

pub returns-in_err-print_if : goal.returns-in_err-print_if
returns-in_err-print_if g c = λ sent.
    let at = writer_of g.W.Write.contents g.W.Deliver.waiting in
    let f : ℕ → List ℕ = line_at c.args.lines.now (plan_of c.args.rated.now.file.now) (contents_in c.args.rated.now.table.now) c.args.system in
    let i = c.loop-index.index in
    let (more, split) = texts_front f (i + 1) c.line_count-index-end.result (omega (arith, c.loop-index-test.true)) in
    part_of_more ⊤ c.from_residual.result (at c.args.writer.now) (at c.print_if.new.writer) (texts_below f i ++ c.line_at.result) (system_lines c.args.lines.now (plan_of c.args.rated.now.file.now) (contents_in c.args.rated.now.table.now) c.args.system) c.from_residual.ensures.1
    (printed_after {A = ⊤} Write (Err c.in_err-print_if.field-0.0) (at c.args.writer.now) (at c.loop-index.writer) (at c.print_if.new.writer) (texts_below f i) c.line_at.result (c.loop-index.invariant sent) (c.in_err-print_if.ensures (c.loop-index.invariant sent).1))
    (more, ap (texts_below f) (sym c.line_count-index-end.ensures) ∙ split ∙ ap (λ (l : List ℕ). l ++ more) (texts_more f i ∙ ap (λ (l : List ℕ). texts_below f i ++ l) (sym c.line_at.ensures)))
