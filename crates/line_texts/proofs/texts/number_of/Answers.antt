use Rattle.line_texts.proofs.LengthLaws.{number_parsed}
use Rattle.line_texts.proofs.Names.{◌^◌, ◌<◌, ◌∙◌, arith, sym, subst, true≢false, ℕ, Option, IfSome, starts_char}
use Rattle.line_texts.proofs.texts.number_of.Goals as goal

pub returns : goal.returns
returns c =
    let plus = starts_char 43 c.args.text.now c.starts_with.result c.starts_with.ensures.cases (omega arith) (omega arith) in
    let p = number_parsed c.args.most c.args.text.now c.parse.result c.requires c.if-text-most.false (λ e. true≢false (sym (plus.1 e) ∙ c.if-starts_with.false)) c.parse.ensures.value.0 in
    record { value = c.ok.ensures.value ∙ p.0; bound = subst (λ (o : Option ℕ). IfSome o (λ n. n < 10 ^ c.args.most)) (sym c.ok.ensures.value) p.1 }
