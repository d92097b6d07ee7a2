use Rattle.rtcm_inspect.proofs.Names.{time_of_week, add_word, end_line, System, ◌∙◌, [], ◌∷◌, ap, decimal, count_ones, bit, MsmHeader, MasksValue, msm_line}
use Rattle.rtcm_msg.specs.Numbers.{message_number as number_of}
use Rattle.rtcm_inspect.proofs.listing.add_msm.Goals as goal

pub returns : goal.returns
unfolding msm_line
returns c =
    let form = c.args.msm.now.form in
    let m = c.args.msm.now.msm in
    let h = c.header-header.ensures.value in
    let number = add_word c.add_number.ensures.text c.put_number.ensures.text (ap decimal c.number.ensures.value) in
    let station = add_word c.add_number-2.ensures.text number (ap decimal (ap (λ (x : MsmHeader). x.station) h)) in
    let time = add_word c.add_number-3.ensures.text station (ap decimal (c.time_of_week.ensures.value ∙ ap (λ (s : System). time_of_week s c.header-header.result.time) c.system.ensures ∙ ap (λ (x : MsmHeader). time_of_week m.system x.time) h)) in
    let more = add_word c.add_number-4.ensures.text time (ap decimal (c.from.ensures ∙ ap (λ (x : MsmHeader). bit x.more) h)) in
    let satellites = add_word c.add_number-5.ensures.text more (ap decimal c.satellites.ensures.set) in
    let signals = add_word c.add_number-6.ensures.text satellites (ap decimal (ap count_ones (c.signals.ensures ∙ ap (λ (x : MasksValue). x.signals) c.masks.ensures))) in
    let cells = add_word c.add_number-7.ensures.text signals (ap decimal c.cells.ensures.set) in
    end_line c.args.line.now (decimal c.args.offset) (decimal (number_of form m.system) ∷ decimal m.header.station ∷ decimal (time_of_week m.system m.header.time) ∷ decimal (bit m.header.more)
    ∷ decimal (count_ones m.sets.satellites) ∷ decimal (count_ones m.sets.signals) ∷ decimal (count_ones m.sets.cells) ∷ []) c.finish.ensures cells
