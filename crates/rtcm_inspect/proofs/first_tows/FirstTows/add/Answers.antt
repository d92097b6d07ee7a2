use Rattle.rtcm_inspect.proofs.TowLemmas.{counts_tow, msm_is, msm_tow, same_later, tows_counted, tows_of_glonass, tows_kept}
use Rattle.rtcm_inspect.proofs.Names.{IsMsmOf, ◌∙◌, ap, arith, Msm, refl, subst, None, Some, System}
use Rattle.rtcm_inspect.proofs.first_tows.FirstTows.add.Goals as goal

pub returns-in-Glonass : goal.returns-in-Glonass
returns-in-Glonass c = λ wanted fs f is own few h.
    let v = c.args.msm.now in
    let msm = msm_is v c.system-system.ensures c.form.ensures.form in
    let placed = tows_kept f c.form.result (record { msms_before = c.args.self.now.msms; system = c.system-system.result; tow = c.tow_of-tow.result; greatest = None })
    (omega (arith, h.few, few)) is refl refl msm (msm_tow wanted v own c.system-system.ensures c.header.ensures.value c.tow_of-tow.ensures.value) c.keep_first.ensures h in
    tows_of_glonass f c.form.result is (subst (λ (s : System). IsMsmOf (Msm v) s c.form.result) c.in-Glonass.is msm) placed

pub returns-in_default : goal.returns-in_default
returns-in_default c = λ wanted fs f is own few h.
    let v = c.args.msm.now in
    let msm = msm_is v c.system-system.ensures c.form.ensures.form in
    let tow = msm_tow wanted v own c.system-system.ensures c.header.ensures.value c.tow_of-tow.ensures.value in
    let placed = tows_kept f c.form.result (record { msms_before = c.args.self.now.msms; system = c.system-system.result; tow = c.tow_of-tow.result; greatest = None })
    (omega (arith, h.few, few)) is refl refl msm tow c.keep_first.ensures h in
    tows_counted f c.form.result is (counts_tow (Msm v) c.system-system.result c.form.result msm c.in_default.not-Glonass)
    (tow 0 ∙ ap Some (same_later c.system-system.result c.tow_of-tow.result c.in_default.not-Glonass)) c.count.ensures placed
