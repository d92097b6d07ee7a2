use Rattle.rinex_inspect.proofs.Names.{⊤, ◌≡◌, ◌∙◌, ◌++◌, ap, sym, subst, append_assoc, refl, List, ℕ, Ok, Err, printed_after, writer_of, PrintsText, plan_of, check_line, Write, Satellites, Signals, all_lines, whole_text, contents_in}
use Rattle.rinex_inspect.proofs.QualityTexts.{part_of_more}
use Rattle.rinex_inspect.proofs.quality.print_end.Goals as goal

pub returns-in_err-print_text-in-None : goal.returns-in_err-print_text-in-None
returns-in_err-print_text-in-None g c = rw c.in-None.is (λ v are sent.
    let at = writer_of g.W.Write.contents g.W.Deliver.waiting in
    let plan = plan_of c.args.file.now in
    let line : c.as_bytes.result.now ≡ check_line v = c.as_bytes.ensures.text ∙ c.add_counts.ensures.text v are ∙ ap (λ (l : List ℕ). l ++ check_line v) c.new-line.ensures in
    let a : List ℕ = all_lines Signals plan (contents_in c.args.tables.now.current) in
    let b : List ℕ = all_lines Satellites plan (contents_in c.args.tables.now.current) in
    part_of_more ⊤ c.from_residual.result (at c.args.writer.now) (at c.print_text.new.writer) c.as_bytes.result.now (whole_text plan c.args.tables.now.current v) c.from_residual.ensures.1 c.in_err-print_text-in-None.ensures
    (a ++ b, append_assoc (check_line v) a b ∙ ap (λ (l : List ℕ). l ++ (a ++ b)) (sym line)))

pub returns-in_ok-print_lines-in-None : goal.returns-in_ok-print_lines-in-None
returns-in_ok-print_lines-in-None g c = rw c.in-None.is (λ v are sent.
    let at = writer_of g.W.Write.contents g.W.Deliver.waiting in
    let plan = plan_of c.args.file.now in
    let line : c.as_bytes.result.now ≡ check_line v = c.as_bytes.ensures.text ∙ c.add_counts.ensures.text v are ∙ ap (λ (l : List ℕ). l ++ check_line v) c.new-line.ensures in
    let a : List ℕ = all_lines Signals plan (contents_in c.args.tables.now.current) in
    let b : List ℕ = all_lines Satellites plan (contents_in c.args.tables.now.current) in
    let first : PrintsText (check_line v) (at c.args.writer.now) (at c.print_text.new.writer) = subst (λ (l : List ℕ). PrintsText l (at c.args.writer.now) (at c.print_text.new.writer)) line c.in_ok-print_text-in-None.ensures in
    printed_after Write c.print_lines-in-None.result (at c.args.writer.now) (at c.print_lines.new.writer) (at c.print_lines-in-None.new.writer) (check_line v ++ a) b
    (printed_after {A = ⊤} Write (Ok tt) (at c.args.writer.now) (at c.print_text.new.writer) (at c.print_lines.new.writer) (check_line v) a first (c.in_ok-print_lines-in-None.ensures first.1))
    (c.print_lines-in-None.ensures (c.in_ok-print_lines-in-None.ensures first.1).1))

pub returns-in_err-print_lines-in-None : goal.returns-in_err-print_lines-in-None
returns-in_err-print_lines-in-None g c = rw c.in-None.is (λ v are sent.
    let at = writer_of g.W.Write.contents g.W.Deliver.waiting in
    let plan = plan_of c.args.file.now in
    let line : c.as_bytes.result.now ≡ check_line v = c.as_bytes.ensures.text ∙ c.add_counts.ensures.text v are ∙ ap (λ (l : List ℕ). l ++ check_line v) c.new-line.ensures in
    let a : List ℕ = all_lines Signals plan (contents_in c.args.tables.now.current) in
    let b : List ℕ = all_lines Satellites plan (contents_in c.args.tables.now.current) in
    let first : PrintsText (check_line v) (at c.args.writer.now) (at c.print_text.new.writer) = subst (λ (l : List ℕ). PrintsText l (at c.args.writer.now) (at c.print_text.new.writer)) line c.in_ok-print_text-in-None.ensures in
    part_of_more ⊤ c.from_residual-in_err-print_lines-in-None.result (at c.args.writer.now) (at c.print_lines.new.writer) (check_line v ++ a) (whole_text plan c.args.tables.now.current v) c.from_residual-in_err-print_lines-in-None.ensures.1
    (printed_after {A = ⊤} Write (Err c.in_err-print_lines-in-None.field-0.0) (at c.args.writer.now) (at c.print_text.new.writer) (at c.print_lines.new.writer) (check_line v) a first (c.in_err-print_lines-in-None.ensures first.1))
    (b, refl))
