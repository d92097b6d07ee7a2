use Rattle.rinex_file.proofs.Names.{◌≡◌, ◌∙◌, ap, ◌∷◌, ◌++◌, [], codes, digits, line_with, Version}
use Rattle.rinex_file.proofs.header.lines.version_line.Goals as goal

pub returns : goal.returns
unfolding digits
returns c =
    let text = codes "     3.05           OBSERVATION DATA    " in
    let content : c.push.new.self.items ≡ text ++ c.args.letter ∷ [] =
    c.push.ensures.items ∙ ap (λ t. t ++ c.args.letter ∷ []) (c.put.ensures.text ∙ ap (λ t. t ++ text) c.new-content.ensures) in
    c.line.ensures ∙ ap (line_with Version) (c.as_slice.ensures.value ∙ content)
