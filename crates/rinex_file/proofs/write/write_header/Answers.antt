use Rattle.rinex_file.proofs.Names.{more_written, part_written, arith, ap, Appends-nil, joined, shown_text}
use Rattle.rinex_file.proofs.write.write_header.Goals as goal

pub loop-line-init : goal.loop-line-init
unfolding shown_text
loop-line-init g c = grind (arith, Appends-nil)

pub loop-line-preserved : goal.loop-line-preserved
loop-line-preserved g c =
    let (can, ends, before) = c.loop-line.invariant in
    (tt, tt, more_written before (ap joined c.in-Some.ensures.steps) c.as_slice.ensures.value c.in_ok-write_whole.ensures.written)

pub returns-in_err-write_whole-clause-written : goal.returns-in_err-write_whole-clause-written
returns-in_err-write_whole-clause-written g c =
    let (can, ends, before) = c.loop-line.invariant in
    part_written (joined c.next.new.self) _ c.from_residual.result c.from_residual.ensures.1 before (ap joined c.in-Some.ensures.steps) c.as_slice.ensures.value c.in_err-write_whole.ensures.written
