use Rattle.rtcm_msg.proofs.Names.{◌∙◌, true, false, sym, rules}
use Rattle.rtcm_msg.proofs.ContentLaws.{rateless_packed}
use Rattle.rtcm_msg.proofs.view.Form.rateless_number.Goals as goal

pub returns-then-is_fine-clause-value : goal.returns-then-is_fine-clause-value
returns-then-is_fine-clause-value c = rateless_packed _ true c.args.cell.now _ (sym c.is_fine.ensures ∙ c.if-is_fine.true) (search rules)

pub returns-else-is_fine-clause-value : goal.returns-else-is_fine-clause-value
returns-else-is_fine-clause-value c = rateless_packed _ false c.args.cell.now _ (sym c.is_fine.ensures ∙ c.if-is_fine.false) (search rules)
