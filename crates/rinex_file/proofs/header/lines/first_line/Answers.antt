use Rattle.rinex_file.proofs.Writing.Grown.{grown_whole}
use Rattle.rinex_file.proofs.Names.{◌∙◌, ap, ◌∷◌, [], refl, ◌*◌, decimal, codes, pos, right, fixed, line_with, First, first_content}
use Rattle.rinex_file.proofs.header.lines.first_line.Goals as goal

pub returns : goal.returns
returns c =
    let t = c.civil-civil.result in
    let year = c.put_whole.ensures.text in let month = c.put_whole-2.ensures.text in let day = c.put_whole-3.ensures.text in
    let hour = c.put_whole-4.ensures.text in let minute = c.put_whole-5.ensures.text in let second = c.put_seconds.ensures.text in let system = c.put.ensures.text in
    let content = grown_whole c.new-content.result.items
    (right 6 (decimal t.year) ∷ right 6 (decimal t.month) ∷ right 6 (decimal t.day) ∷ right 6 (decimal t.hour) ∷ right 6 (decimal t.minute)
    ∷ right 13 (fixed 7 (pos (t.millisecond * 10_000))) ∷ codes "     GPS" ∷ []) c.put.new.line.items c.new-content.ensures
    (_, year, (_, month, (_, day, (_, hour, (_, minute, (_, second, (_, system, refl))))))) in
    c.line.ensures ∙ ap (line_with First) (c.as_slice.ensures.value ∙ content ∙ ap first_content c.civil-civil.ensures.walk)
