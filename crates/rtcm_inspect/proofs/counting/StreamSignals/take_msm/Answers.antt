use Rattle.rtcm_inspect.proofs.CountingLemmas.{msm_station, takes_another, takes_msm}
use Rattle.rtcm_inspect.proofs.Names.{◌≡◌, ◌∙◌, ◌&&◌, not, sym, arith, Msm, have_form, inspected, if◌then◌else◌}
use Rattle.rtcm_msg.specs.declared.number.Forms.TheVariants.{All}
use Rattle.rtcm_inspect.proofs.counting.StreamSignals.take_msm.Goals.{else-count_msm-via-then-count_msm+else-not-have, else-count_msm-via-else-count_msm}
use Rattle.rtcm_inspect.proofs.counting.StreamSignals.take_msm.Goals as goal

pub returns-then-not-have : goal.returns-then-not-have
returns-then-not-have c = λ f is.
    let x = c.args.self.now in
    let v = c.args.msm.now in
    let own = sym (c.is_wanted.ensures (inspected (Msm v)) (msm_station v c.header-station.ensures.value)) ∙ c.if-is_wanted.true in
    let any = c.if-count_msm.true in
    let form = c.form.ensures.form in
    let have = c.have.ensures in
    let other = c.if-not-have.true in
    takes_msm x f v is c.header-station.ensures.value own c.add.ensures c.count_msm.ensures.counts c.count_msm.ensures.any (grind (arith, any, form, have, other)) c.add_channels.ensures
    (λ fs few h. c.add-then-is_wanted.ensures x.station fs f is own few h)

pub returns-else-count_msm : goal.returns-else-count_msm
returns-else-count_msm c = λ f is.
    let x = c.args.self.now in
    let v = c.args.msm.now in
    let own = sym (c.is_wanted.ensures (inspected (Msm v)) (msm_station v c.header-station.ensures.value)) ∙ c.if-is_wanted.true in
    let same : x.forms ≡ (if c.count_msm.result && not (have_form x.forms v.form) then All else x.forms) = elim c.else-count_msm.branch [
      | else-count_msm-via-then-count_msm+else-not-have w ↦ (let form = w.form.ensures.form in let have = w.have.ensures in let known = w.if-not-have.false in grind (arith, form, have, known))
      | else-count_msm-via-else-count_msm w ↦ (let none = w.if-count_msm.false in grind (arith, none))
    ] in
    takes_msm x f v is c.header-station.ensures.value own c.add.ensures c.count_msm.ensures.counts c.count_msm.ensures.any same c.add_channels.ensures
    (λ fs few h. c.add-then-is_wanted.ensures x.station fs f is own few h)

pub returns-else-is_wanted : goal.returns-else-is_wanted
returns-else-is_wanted c = λ f is.
    let v = c.args.msm.now in
    takes_another c.args.self.now f v is c.header-station.ensures.value (sym (c.is_wanted.ensures (inspected (Msm v)) (msm_station v c.header-station.ensures.value)) ∙ c.if-is_wanted.false) c.add.ensures
