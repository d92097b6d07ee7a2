use Rattle.rtcm_inspect.proofs.Names.{add_text, add_word, end_line, with_words, values_of, equipment_fault_words, equipment_line, ◌∙◌, ◌∷◌, [], ap, sym, refl, ℕ, List, decimal, framed, number_word}
use Rattle.rtcm_inspect.proofs.ListingLemmas.{written_as}
use Rattle.rtcm_inspect.proofs.listing.write_equipment.Goals as goal

pub returns-in-Ok : goal.returns-in-Ok
unfolding equipment_line
returns-in-Ok g c =
    let f = framed c.args.frame.now in
    let text = c.as_slice.ensures.value ∙ c.equipment_text.ensures ∙ ap (λ r. equipment_line f (values_of r)) (sym c.in-Ok.is) in
    written_as text c.write_whole.ensures.written

pub returns-in-Err : goal.returns-in-Err
unfolding equipment_line
returns-in-Err g c =
    let f = framed c.args.frame.now in
    let words = equipment_fault_words c.in-Err.fault in
    let first = add_text c.put_number.ensures.text c.new-line.ensures refl in
    let number = add_word c.add_message_number.ensures.text first (ap number_word c.as_slice-in-Err.ensures.value) in
    let fault = c.add_equipment_fault.ensures.text ∙ ap (λ (t : List ℕ). with_words t words) number in
    let text = c.as_bytes.ensures.text ∙ end_line [] (decimal f.offset) (number_word f.message ∷ words) c.finish.ensures fault
    ∙ ap (λ r. equipment_line f (values_of r)) (sym c.in-Err.is) in
    written_as text c.write_whole-in-Err.ensures.written
