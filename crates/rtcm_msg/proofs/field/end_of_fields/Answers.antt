use Rattle.rtcm_msg.proofs.Names.{common_steps, ◌*◌, length, arith, sym, ◌∙◌}
use Rattle.rtcm_msg.proofs.RowLaws.{end_step, end_short, end_over, end_is}
use Rattle.rtcm_msg.proofs.field.end_of_fields.Goals as goal

pub returns-then-bits-end-clause-exact : goal.returns-then-bits-end-clause-exact
returns-then-bits-end-clause-exact c = sym (end_short c.loop-width.width-index c.args.widths.now c.args.count (8 * length c.args.bytes.now) c.loop-width.place c.loop-width-test.true c.if-bits-end.true) ∙ c.loop-width.invariant.same

pub loop-width-preserved : goal.loop-width-preserved
loop-width-preserved c = grind (arith, common_steps, end_step)

pub returns-clause-exact : goal.returns-clause-exact
returns-clause-exact c = sym (end_over c.loop-width.width-index c.args.widths.now c.args.count (8 * length c.args.bytes.now) c.loop-width.place (omega arith)) ∙ c.loop-width.invariant.same

pub returns-clause-end : goal.returns-clause-end
returns-clause-end c = end_is c.args.widths.now c.args.count (8 * length c.args.bytes.now) c.args.place c.loop-width.place (sym (returns-clause-exact c))
