use Rattle.rinex_inspect.proofs.Names.{◌≡◌, [], take, flat_map, writer_of, PrintsText, systems, plan_of, system_lines, contents_in}
use Rattle.rinex_inspect.proofs.quality_lines.print_lines.Given as goal

abbrev pub invariant-loop-i : goal.invariant-loop-i
invariant-loop-i g l =
    let at = writer_of g.W.Write.contents g.W.Deliver.waiting in
    (at l.fn.writer).waiting ≡ [] → PrintsText (flat_map (system_lines l.lines (plan_of l.rated.file.now) (contents_in l.rated.table.now)) (take l.i systems)) (at l.fn.writer) (at l.writer)
