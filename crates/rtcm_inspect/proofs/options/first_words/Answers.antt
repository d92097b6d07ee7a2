use Rattle.rtcm_inspect.proofs.Names.{add_text, add_word, ◌∙◌, ◌++◌, ℕ, Option, ap, codes, refl, rules, valued_in, number_start}
use Rattle.rtcm_inspect.proofs.options.first_words.Goals as goal

pub returns : goal.returns
returns c = λ fs h.
    let s = c.args.signals.now in
    let counts = h.counted.signal_counts in
    let cells = valued_in s.station fs in
    let numbers = c.add_number-2.ensures.text ∙ ap (λ (n : Option ℕ). c.add_number.new.line ++ number_start (codes "--station") n) (search rules) in
    let first = add_text c.put.ensures (add_text numbers (add_text c.add_number.ensures.text c.new-line.ensures refl) refl) refl in
    add_word (c.add_codes-2.ensures.text cells counts) (add_word c.add_word.ensures.text (add_word (c.add_codes.ensures.text cells counts) first refl) refl) refl
