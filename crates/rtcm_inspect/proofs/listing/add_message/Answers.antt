use Rattle.rtcm_inspect.proofs.Names.{arith, common_steps, add_word, end_line, ◌∙◌, ◌++◌, ap, sym, append-nil, ℕ, List, framed, viewed_message, Msm, Station, Other, station_line, fault_line}
use Rattle.rtcm_inspect.proofs.ShowLemmas.{shown, shown_value}
use Rattle.rtcm_inspect.proofs.listing.add_message.Goals as goal

pub returns-in-Station : goal.returns-in-Station
returns-in-Station c =
    let f = framed c.args.frame.now in
    c.add_station.ensures
    ∙ ap (λ (l : List ℕ). c.args.line.now ++ l)
    (ap (station_line f.offset) c.parts.ensures.value
    ∙ sym (shown_value c.args.all f (viewed_message c.in-Ok.view) (Station c.in-Station.station) c.as_slice-message.ensures.value c.in-Ok.ensures (ap viewed_message c.in-Station.is)))

pub returns-in-Msm : goal.returns-in-Msm
returns-in-Msm c =
    let f = framed c.args.frame.now in
    c.add_msm.ensures
    ∙ ap (λ (l : List ℕ). c.args.line.now ++ l)
    (sym (shown_value c.args.all f (viewed_message c.in-Ok.view) (Msm c.in-Msm.msm) c.as_slice-message.ensures.value c.in-Ok.ensures (ap viewed_message c.in-Msm.is)))

pub returns-in-Other : goal.returns-in-Other
returns-in-Other c =
    let none = shown_value c.args.all (framed c.args.frame.now) (viewed_message c.in-Ok.view) (Other c.in-Other.number c.in-Other.set) c.as_slice-message.ensures.value c.in-Ok.ensures (ap viewed_message c.in-Other.is) in
    sym (ap (λ (l : List ℕ). c.args.line.now ++ l) none ∙ append-nil c.args.line.now)

pub returns-in-Err : goal.returns-in-Err
unfolding fault_line
returns-in-Err c = grind (arith, common_steps, add_word, end_line, shown)
