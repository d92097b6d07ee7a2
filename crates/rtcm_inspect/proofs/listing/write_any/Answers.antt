use Rattle.rtcm_inspect.proofs.Names.{equipment_in, values_of, line_with, show_line, Bool, true, rules, ◌≡◌, ◌∙◌, ap, sym, Some, option_map, framed}
use Rattle.rtcm_inspect.proofs.ListingLemmas.{written_as}
use Rattle.rtcm_inspect.proofs.listing.write_any.Goals as goal

pub returns-in-Some : goal.returns-in-Some
returns-in-Some g c =
    let f = framed c.args.frame.now in
    let is : Some (values_of c.in-Some.read) ≡ equipment_in f.message =
    sym (ap (option_map values_of) c.in-Some.is) ∙ c.equipment_in.ensures.value ∙ ap equipment_in c.as_slice.ensures.value in
    let all : c.args.all ≡ true = search rules in
    written_as (ap (line_with f) is ∙ sym (ap (λ (b : Bool). show_line b f) all)) c.write_equipment.ensures
