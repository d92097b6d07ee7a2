use Rattle.rtcm_inspect.proofs.CountingLemmas.{takes_station}
use Rattle.rtcm_inspect.proofs.FirstLemmas.{or_none}
use Rattle.rtcm_inspect.proofs.Names.{◌≡◌, ◌∙◌, ap, sym, arith, refl, Ok, Some, None, StationParts, Station, inspected, is_of_station, option_or, if◌then◌else◌}
use Rattle.rtcm_inspect.proofs.counting.StreamSignals.take_station.Goals.{else-is_wanted-via-then-is_wanted+else-is_none, else-is_wanted-via-else-is_wanted}
use Rattle.rtcm_inspect.proofs.counting.StreamSignals.take_station.Goals as goal

pub returns-then-is_none : goal.returns-then-is_none
returns-then-is_none c = λ f is.
    let p = c.parts-parts.result in
    let own = sym (c.is_wanted.ensures (inspected (Station p)) refl) ∙ c.if-is_wanted.true in
    let known = c.is_none.ensures in
    let none = c.if-is_none.true in
    takes_station c.args.self.now f p (is ∙ ap (λ (p : StationParts). Ok (Station p)) (sym c.parts-parts.ensures.value)) (grind (arith, own, known, none)) (λ h. c.parts-parts.ensures.in_range) c.add.ensures

pub returns-else-is_wanted : goal.returns-else-is_wanted
returns-else-is_wanted c = λ f is.
    let p = c.parts-parts.result in
    let own = sym (c.is_wanted.ensures (inspected (Station p)) refl) in
    let kept : c.args.self.now.first.point ≡ option_or c.args.self.now.first.point (if is_of_station c.args.self.now.station (inspected (Station p)) then Some p else None) = elim c.else-is_wanted.branch [
      | else-is_wanted-via-then-is_wanted+else-is_none w ↦ (let known = w.is_none.ensures in let some = w.if-is_none.false in grind (arith, known, some))
      | else-is_wanted-via-else-is_wanted w ↦ (let other = own ∙ w.if-is_wanted.false in grind (arith, other, or_none))
    ] in
    takes_station c.args.self.now f p (is ∙ ap (λ (p : StationParts). Ok (Station p)) (sym c.parts-parts.ensures.value)) kept (λ h. h) c.add.ensures
