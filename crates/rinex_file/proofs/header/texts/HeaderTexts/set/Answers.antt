use Rattle.rinex_file.proofs.HeaderRows.Texts.{set_text, cut_text}
use Rattle.rinex_file.proofs.Names.{arith, ◌≡◌, ◌∙◌, sym, ap, ◌≤◌, ◌++◌, length, take, length-take, map-set, trimmed, width_of}
use Rattle.rinex_file.proofs.header.texts.HeaderTexts.set.Goals.{After-put}
use Rattle.rinex_file.proofs.header.texts.HeaderTexts.set.Goals as goal

kept : (c : After-put) → c.put.new.line.items ≡ trimmed c.args.text.now
kept c = c.put.ensures.text ∙ ap (λ l. l ++ take c.trimmed_len.result c.args.text.now) c.new-taken.ensures ∙ c.trimmed_len.ensures.text

pub invariant_of-self : goal.invariant_of-self
invariant_of-self c =
    let text = c.args.text.now in
    let size : length (trimmed text) ≡ length (take c.trimmed_len.result text) = ap length (sym c.trimmed_len.ensures.text) in
    let cut = length-take c.trimmed_len.result text in
    let wide = c.width.ensures.value in
    let short : length (trimmed text) ≤ width_of c.args.field = omega (arith, size, cut, wide, c.if-cut-width.false) in
    let is = cut_text c.args.field text (sym c.is_printable.ensures ∙ c.if-not-is_printable.false) short in
    rw (map-set (λ text. text.items) c.self.inside.texts c.place.result c.put.new.line, c.place.ensures.place, kept ((goal.at.invariant_of-self c).After-put))
    (set_text _ c.args.field (trimmed text) c.self.invariant is)

pub returns-clause-value : goal.returns-clause-value
returns-clause-value c = grind (arith, c.place.ensures.place, map-set, kept)
