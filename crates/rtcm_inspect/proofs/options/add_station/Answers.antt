use Rattle.rtcm_inspect.proofs.Names.{add_word, arith, append_assoc, ◌≡◌, ◌∙◌, ◌∷◌, ◌++◌, ap, sym, subst, refl, rules, ℕ, pos, List, Option, Some, None, IfSome, codes, w64, to_z, of_z, InRange, StationParts, antenna_words, position_word, station_words, with_words, metres}
use Rattle.rtcm_inspect.proofs.ShowLemmas.{as_passed}
use Rattle.rtcm_inspect.proofs.options.add_station.Goals as goal

-- the option of the position
placed : (start : List ℕ) (s : StationParts) {name x y z : List ℕ} → InRange s → name ≡ start ++ 0x20 ∷ codes "--position" → x ≡ name ++ 0x3D ∷ metres (to_z w64 (of_z w64 s.x))
    → y ≡ x ++ 0x2C ∷ metres (to_z w64 (of_z w64 s.y)) → z ≡ y ++ 0x2C ∷ metres (to_z w64 (of_z w64 s.z)) → z ≡ start ++ 0x20 ∷ position_word s
placed start s range name x y z = simp (z, y, x, name, as_passed s.x range.x, as_passed s.y range.y, as_passed s.z range.z, append_assoc)

-- the words of the station, which has this height
as_given : (start : List ℕ) (given : Option StationParts) (s : StationParts) (height : Option ℕ) → given ≡ Some s → s.height ≡ height
    → with_words start (position_word s ∷ antenna_words height) ≡ with_words start (station_words given)
as_given start given s height is has =
    ap (λ (h : Option ℕ). with_words start (position_word s ∷ antenna_words h)) (sym has) ∙ ap (λ (o : Option StationParts). with_words start (station_words o)) (sym is)

pub returns-in-Some-height : goal.returns-in-Some-height
returns-in-Some-height c =
    let s = c.in-Some.station in
    let start = c.args.line.now in
    let range : InRange s = subst (λ (o : Option StationParts). IfSome o InRange) c.in-Some.is c.requires.in_range in
    let position = placed start s range c.add_word.ensures.text c.add_metres.ensures.text c.add_metres-in-Some.ensures.text c.add_metres-in-Some-2.ensures.text in
    let option = add_word c.add_word-in-Some-height.ensures.text position refl in
    let height : c.add_metres-in-Some-height.new.self ≡ c.add_word-in-Some-height.new.self ++ 0x20 ∷ metres (pos c.in-Some-height.height) = search rules in
    record { text = add_word height option refl ∙ as_given start c.args.station s (Some c.in-Some-height.height) c.in-Some.is c.in-Some-height.is; short = omega arith }

pub returns-in_default-height : goal.returns-in_default-height
returns-in_default-height c =
    let s = c.in-Some.station in
    let start = c.args.line.now in
    let range : InRange s = subst (λ (o : Option StationParts). IfSome o InRange) c.in-Some.is c.requires.in_range in
    let position = placed start s range c.add_word.ensures.text c.add_metres.ensures.text c.add_metres-in-Some.ensures.text c.add_metres-in-Some-2.ensures.text in
    record { text = position ∙ as_given start c.args.station s None c.in-Some.is c.in_default-height.is; short = omega arith }
