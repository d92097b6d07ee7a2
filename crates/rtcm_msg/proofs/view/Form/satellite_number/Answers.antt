use Rattle.rtcm_msg.proofs.Names.{◌∙◌, true, false, sym, rules, arith}
use Rattle.rtcm_msg.proofs.ContentLaws.{satellite_packed}
use Rattle.rtcm_msg.proofs.view.Form.satellite_number.Goals as goal

pub returns-then-has_rates : goal.returns-then-has_rates
returns-then-has_rates c = satellite_packed c.args.self true c.args.satellite.now _ (sym c.has_rates.ensures ∙ c.if-has_rates.true) (search rules)

pub returns-else-has_rates : goal.returns-else-has_rates
returns-else-has_rates c = satellite_packed c.args.self false c.args.satellite.now _ (sym c.has_rates.ensures ∙ c.if-has_rates.false) (omega arith)
