use Rattle.rinex_file.proofs.Writing.Grown.{grown_whole}
use Rattle.rinex_file.proofs.Names.{◌∙◌, ◌∷◌, ◌*◌, [], ap, refl, decimal, codes, pos, epoch_line, right, fixed, padded}
use Rattle.rinex_file.proofs.write.line.put_epoch.Goals as goal

pub returns : goal.returns
unfolding epoch_line
returns g c =
    let t = c.civil-civil.result in
    let begin = c.put.ensures.text in let year = c.put_whole.ensures.text in let month = c.put_two.ensures.text in let day = c.put_two-2.ensures.text in
    let hour = c.put_two-3.ensures.text in let minute = c.put_two-4.ensures.text in let second = c.put_seconds.ensures.text in
    let flag = c.put-2.ensures.text in let count = c.put_whole-2.ensures.text in let end = c.put-3.ensures.text in
    grown_whole c.clear.new.self.items
    (codes "> " ∷ right 4 (decimal t.year) ∷ (32 ∷ padded 2 t.month) ∷ (32 ∷ padded 2 t.day) ∷ (32 ∷ padded 2 t.hour) ∷ (32 ∷ padded 2 t.minute)
    ∷ right 11 (fixed 7 (pos (t.millisecond * 10_000))) ∷ codes "  0" ∷ right 3 (decimal c.args.satellites) ∷ (10 ∷ []) ∷ []) c.put-3.new.line.items c.clear.ensures
    (_, begin, (_, year, (_, month, (_, day, (_, hour, (_, minute, (_, second, (_, flag, (_, count, (_, end, refl))))))))))
    ∙ ap (λ t. epoch_line t c.args.satellites) c.civil-civil.ensures.walk
