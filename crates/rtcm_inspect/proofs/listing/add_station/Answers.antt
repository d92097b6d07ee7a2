use Rattle.rtcm_inspect.proofs.Names.{add_word, end_line, ◌≡◌, ◌∙◌, ◌∷◌, ◌++◌, ap, pos, refl, rules, sym, ℕ, List, Option, decimal, is_some, if◌then◌else◌, with_words, metres, station_line, height_words}
use Rattle.rtcm_inspect.proofs.ShowLemmas.{as_passed}
use Rattle.rtcm_inspect.proofs.listing.add_station.Goals.{in-Some, in_default}
use Rattle.rtcm_inspect.proofs.listing.add_station.Goals as goal

pub returns : goal.returns
unfolding station_line
returns c =
    let s = c.args.station in
    let kind : c.if-is_some.add_number ≡ (if is_some s.height then 1006 else 1005) = search rules in
    let number = add_word c.add_number.ensures.text c.put_number.ensures.text (ap decimal kind) in
    let station = add_word c.add_number-2.ensures.text number refl in
    let x = add_word c.add_metres.ensures.text station (ap metres (as_passed s.x c.requires.in_range.x)) in
    let y = add_word c.add_metres-2.ensures.text x (ap metres (as_passed s.y c.requires.in_range.y)) in
    let z = add_word c.add_metres-3.ensures.text y (ap metres (as_passed s.z c.requires.in_range.z)) in
    let words : c.match-station.line ≡ with_words c.add_metres-3.new.self (height_words s.height) = elim c.match-station.branch [
      | in-Some w ↦ (let more : w.add_metres-in-Some.new.self ≡ c.add_metres-3.new.self ++ 0x20 ∷ metres (pos w.in-Some.height) = search rules in
          rw w.line-is (more ∙ ap (λ (h : Option ℕ). with_words c.add_metres-3.new.self (height_words h)) (sym w.in-Some.is)))
      | in_default w ↦ rw w.line-is (ap (λ (h : Option ℕ). with_words c.add_metres-3.new.self (height_words h)) (sym w.in_default.is))
    ] in
    let height = words ∙ ap (λ (t : List ℕ). with_words t (height_words s.height)) z in
    end_line c.args.line.now (decimal c.args.offset) (decimal (if is_some s.height then 1006 else 1005) ∷ decimal s.station ∷ metres s.x ∷ metres s.y ∷ metres s.z ∷ height_words s.height) c.finish.ensures height
