use Rattle.rtcm_msg.proofs.Names.{◌∙◌, true, false, sym, refl, rules, w16, w64, lit≤, div-one}
use Rattle.rtcm_msg.proofs.ContentLaws.{satellite_unpacked}
use Rattle.rtcm_msg.proofs.SignedLaws.{narrower}
use Rattle.rtcm_msg.proofs.view.Form.satellite_of.Goals as goal

pub returns-then-has_rates : goal.returns-then-has_rates
returns-then-has_rates c =
    satellite_unpacked c.args.self true c.args.number _ (sym c.has_rates.ensures ∙ c.if-has_rates.true)
    (rw (narrower w64 w16 c.signed_of.result (search rules) (lit≤ tt), c.signed_of.ensures.value, div-one c.args.number) refl)

pub returns-else-has_rates : goal.returns-else-has_rates
returns-else-has_rates c = satellite_unpacked c.args.self false c.args.number _ (sym c.has_rates.ensures ∙ c.if-has_rates.false) (rw (div-one c.args.number) refl)
