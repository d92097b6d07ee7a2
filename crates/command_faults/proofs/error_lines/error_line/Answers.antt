use Rattle.command_faults.proofs.Names.{◌∙◌, [], ℕ, List, ap, codes, refl, error_line, error_words, with_words, add_text, end_line}
use Rattle.command_faults.proofs.error_lines.error_line.Goals as goal

pub returns : goal.returns
unfolding error_line
returns c =
    let name = add_text c.put.ensures c.new-line.ensures refl in
    let words = error_words c.args.fault in
    end_line [] (codes "rtcm2rinex:") words c.finish.ensures (c.add_error.ensures.text ∙ ap (λ (t : List ℕ). with_words t words) name)
