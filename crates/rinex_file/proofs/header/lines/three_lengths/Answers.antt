use Rattle.rinex_file.proofs.Writing.Grown.{grown_whole}
use Rattle.rinex_file.proofs.Names.{rules, ◌≡◌, ◌∙◌, ap, ◌∷◌, ◌++◌, [], refl, right, fixed, line_with}
use Rattle.rinex_file.proofs.header.lines.three_lengths.Goals as goal

pub returns : goal.returns
returns c =
    let a = right 14 (fixed 4 c.args.a) in
    let b = right 14 (fixed 4 c.args.b) in
    let one : c.put_fixed.new.line.items ≡ c.new-content.result.items ++ a = search rules in
    let two : c.put_fixed-2.new.line.items ≡ c.put_fixed.new.line.items ++ b = search rules in
    let three : c.put_fixed-3.new.line.items ≡ c.put_fixed-2.new.line.items ++ _ = search rules in
    let content = grown_whole c.new-content.result.items (a ∷ b ∷ _ ∷ []) c.put_fixed-3.new.line.items c.new-content.ensures (_, one, (_, two, (_, three, refl))) in
    c.line.ensures ∙ ap (line_with c.args.row) (c.as_slice.ensures.value ∙ content)
