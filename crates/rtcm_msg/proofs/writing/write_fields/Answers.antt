use Rattle.rtcm_msg.proofs.Names.{common_steps, arith, append-nil, drop-length, field_bits}
use Rattle.rtcm_msg.proofs.WritingSteps.{fields_next, width_next}
use Rattle.rtcm_msg.proofs.writing.write_fields.Goals as goal

pub loop-width-preserved : goal.loop-width-preserved
loop-width-preserved c =
    let width = width_next c.args.fields.now c.loop-width.width-index c.loop-width-test.true in
    record {
      bits = fields_next c.args.fields.now c.loop-width.width-index c.loop-width.writer c.put.new.self _ c.loop-width-test.true c.put.ensures.bits c.loop-width.invariant.bits;
      len = omega (arith, width);
    }

pub returns-clause-bits : goal.returns-clause-bits
unfolding field_bits
returns-clause-bits c = grind (arith, common_steps, append-nil, drop-length)
