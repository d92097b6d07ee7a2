use Rattle.rinex_inspect.proofs.Names.{⊤, flat_map, ◌≡◌, ◌∙◌, ◌+◌, ◌++◌, ◌∷◌, [], ap, sym, drop, take, append-nil, List, ℕ, Err, flat_map-append, take-append-drop, printed_after, writer_of, systems_taken, systems, System, plan_of, Write, system_lines, contents_in}
use Rattle.rinex_inspect.proofs.QualityTexts.{part_of_more}
use Rattle.rinex_inspect.proofs.quality_lines.print_lines.Goals as goal

pub returns-in_err-print_system : goal.returns-in_err-print_system
returns-in_err-print_system g c = λ sent.
    let at = writer_of g.W.Write.contents g.W.Deliver.waiting in
    let f : System → List ℕ = system_lines c.args.lines.now (plan_of c.args.rated.now.file.now) (contents_in c.args.rated.now.table.now) in
    let i = c.loop-i.i in
    let s = c.at.result in
    let front : flat_map f (take (i + 1) systems) ≡ flat_map f (take i systems) ++ f s = ap (flat_map f) (systems_taken i s c.at.ensures) ∙ flat_map-append f (take i systems) (s ∷ []) ∙ ap (λ (l : List ℕ). flat_map f (take i systems) ++ l) (append-nil (f s)) in
    part_of_more ⊤ c.from_residual.result (at c.args.writer.now) (at c.print_system.new.writer) (flat_map f (take i systems) ++ f s) (flat_map f systems) c.from_residual.ensures.1
    (printed_after {A = ⊤} Write (Err c.in_err-print_system.field-0.0) (at c.args.writer.now) (at c.loop-i.writer) (at c.print_system.new.writer) (flat_map f (take i systems)) (f s) (c.loop-i.invariant sent) (c.in_err-print_system.ensures (c.loop-i.invariant sent).1))
    (flat_map f (drop (i + 1) systems), ap (flat_map f) (sym (take-append-drop (i + 1) systems)) ∙ flat_map-append f (take (i + 1) systems) (drop (i + 1) systems) ∙ ap (λ (l : List ℕ). l ++ flat_map f (drop (i + 1) systems)) front)
