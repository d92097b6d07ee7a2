use Rattle.rtcm_msg.proofs.Names.{◌+◌, ◌*◌, ◌∙◌, arith, sym, refl, rules, w16, w64, lit≤, true, false, bits_of}
use Rattle.rtcm_msg.proofs.ContentLaws.{satellite_read}
use Rattle.rtcm_msg.proofs.SignedLaws.{narrower}
use Rattle.rtcm_msg.proofs.view.Form.satellite_in.Goals as goal

pub returns-then-has_rates : goal.returns-then-has_rates
returns-then-has_rates c =
    let place = c.args.place in
    let count = c.args.count in
    let rate = narrower w64 w16 c.signed_to.result (search rules) (lit≤ tt) ∙ c.signed_to.ensures.value (place + count * 22) (omega arith) in
    satellite_read c.args.self true count (bits_of c.args.bytes.now) place c.args.i _ (sym c.has_rates.ensures ∙ c.if-has_rates.true)
    (rw (c.short_to-whole.ensures.value place (omega arith), c.short_to.ensures.value (place + count * 8) (omega arith), c.short_to-then-has_rates.ensures.value (place + count * 12) (omega arith), rate) refl)

pub returns-else-has_rates : goal.returns-else-has_rates
returns-else-has_rates c =
    let place = c.args.place in
    let count = c.args.count in
    satellite_read c.args.self false count (bits_of c.args.bytes.now) place c.args.i _ (sym c.has_rates.ensures ∙ c.if-has_rates.false)
    (rw (c.short_to-whole.ensures.value place (omega arith), c.short_to-else-has_rates.ensures.value (place + count * 8) (omega arith)) refl)
