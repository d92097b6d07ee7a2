use Rattle.rtcm_msg.proofs.Names.{◌∙◌, sym, rules}
use Rattle.rtcm_msg.proofs.ContentLaws.{cell_packed}
use Rattle.rtcm_msg.proofs.view.Form.cell_number.Goals as goal

pub returns-then-has_rates : goal.returns-then-has_rates
returns-then-has_rates c = cell_packed c.args.self c.args.cell.now (sym c.has_rates.ensures ∙ c.if-has_rates.true) c.rateless_number-number.ensures.value (search rules)
