use Rattle.rtcm_inspect.proofs.Names.{◌∷◌, ◌++◌, ◌∙◌, [], ℕ, List, map, ap, decimal, Bor, end_line, with_words, quoted, of_ok}
use Rattle.rtcm_inspect.proofs.OptionLemmas.{words_more}
use Rattle.rtcm_inspect.proofs.equipment.equipment_text.Goals as goal

pub returns : goal.returns
returns c =
    let e = c.args.equipment.now in
    let first = decimal e.number ∷ decimal e.station ∷ decimal e.setup ∷ [] in
    let texts = map quoted (map (λ t. t.now) e.texts.items) in
    let head = of_ok c.unwrap.ensures c.try_extend_from_slice.ensures.ok ∙ ap (λ (l : List ℕ). c.new-text.result.items ++ l) (c.as_bytes.ensures.text ∙ c.head_of-head.ensures.text)
    ∙ ap (λ (l : List ℕ). l ++ with_words (decimal c.args.offset) first) c.new-text.ensures in
    let all = c.add_texts.ensures.text ∙ ap (λ (ts : List (Bor (List ℕ))). with_words c.try_extend_from_slice.new.self.items (map quoted (map (λ t. t.now) ts))) c.as_slice.ensures.value
    ∙ ap (λ (l : List ℕ). with_words l texts) head ∙ words_more (decimal c.args.offset) first texts in
    end_line [] (decimal c.args.offset) (first ++ texts) c.push.ensures.items all
