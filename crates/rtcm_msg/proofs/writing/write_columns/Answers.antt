use Rattle.rtcm_msg.proofs.Names.{common_steps, ◌≡◌, ◌+◌, ◌-◌, drop, get_or, arith, append-nil, drop-length, columns, total_width}
use Rattle.rtcm_msg.proofs.ColumnSteps.{total-drop}
use Rattle.rtcm_msg.proofs.WritingSteps.{columns_next}
use Rattle.rtcm_msg.proofs.writing.write_columns.Goals as goal

pub loop-width-preserved : goal.loop-width-preserved
loop-width-preserved c =
    let split = total-drop c.loop-width.width-index c.args.widths.now c.loop-width-test.true in
    let rest : c.loop-width.shift - get_or c.args.widths.now c.loop-width.width-index 0 ≡ total_width (drop (c.loop-width.width-index + 1) c.args.widths.now) = omega (arith, split, c.loop-width.invariant.shift) in
    let len = rw split at c.loop-width.invariant.len in
    record {
      low = omega arith;
      shift = rest;
      bits = columns_next c.args.widths.now c.args.numbers.now c.loop-width.width-index c.loop-width.writer c.loop-width-test.true (rw rest at c.write_column.ensures.bits) c.loop-width.invariant.bits;
      len = omega (arith, len);
    }

pub returns-clause-bits : goal.returns-clause-bits
unfolding columns
returns-clause-bits c = grind (arith, common_steps, append-nil, drop-length)
