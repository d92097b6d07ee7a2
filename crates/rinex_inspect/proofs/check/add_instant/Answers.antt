use Rattle.rinex_inspect.proofs.Names.{◌≡◌, ◌∙◌, ◌∷◌, ◌++◌, ap, arith, append_assoc, clock_text, date_text, Civil}
use Rattle.rinex_inspect.proofs.check.add_instant.Goals as goal

pub returns : goal.returns
returns c =
    let date = c.civil-civil.result in
    let words : c.add_three.new.self ≡ (c.args.text.now ++ 0x20 ∷ date_text date) ++ c.args.separator ∷ clock_text date = simp (c.add_three.ensures.text, c.add_two-3.ensures.text, c.add_two-2.ensures.text, c.add_two.ensures.text, c.add_date.ensures.text, c.from-millisecond.ensures, c.from.ensures, c.from-2.ensures, append_assoc) in
    record {
      text = words ∙ ap (λ (d : Civil). (c.args.text.now ++ 0x20 ∷ date_text d) ++ c.args.separator ∷ clock_text d) c.civil-civil.ensures.walk;
      short = omega (arith, c.add_date.ensures.short, c.add_two.ensures.short, c.add_two-2.ensures.short, c.add_two-3.ensures.short, c.add_three.ensures.short);
    }
