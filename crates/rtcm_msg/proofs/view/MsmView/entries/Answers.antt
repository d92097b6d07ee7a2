use Rattle.rtcm_msg.proofs.Names.{arith, common_steps, ap, Unread}
use Rattle.rtcm_msg.proofs.ValueLaws.{all_entries, few_entries}
use Rattle.rtcm_msg.proofs.view.MsmView.entries.Goals as goal

pub returns-clause-all : goal.returns-clause-all
returns-clause-all c = grind (arith, common_steps, all_entries)

pub returns-clause-few : goal.returns-clause-few
returns-clause-few c = rw (ap (λ (u : Unread). u.left) (returns-clause-all c)) (few_entries c.args.self.now c.cells.result c.cells.ensures.count c.cells.ensures.few)
