use Rattle.rinex_inspect.proofs.Names.{◌≡◌, [], writer_of, PrintsText, plan_of, texts_below, line_at, contents_in}
use Rattle.rinex_inspect.proofs.quality_lines.print_system.Given as goal

abbrev pub invariant-loop-index : goal.invariant-loop-index
invariant-loop-index g l =
    let at = writer_of g.W.Write.contents g.W.Deliver.waiting in
    (at l.fn.writer).waiting ≡ [] → PrintsText (texts_below (line_at l.lines (plan_of l.rated.file.now) (contents_in l.rated.table.now) l.system) l.index) (at l.fn.writer) (at l.writer)
