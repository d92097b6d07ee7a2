use Rattle.rinex_file.proofs.Writing.Sent.{event_parts}
use Rattle.rinex_file.proofs.Names.{all_written, more_written, none_written, part_written, ◌∙◌, ◌++◌, [], refl, height_line, position_line}
use Rattle.rinex_file.proofs.write.write_event.Goals as goal

pub returns-in_err-write_whole-clause-written : goal.returns-in_err-write_whole-clause-written
returns-in_err-write_whole-clause-written g c =
    let v = c.args.values in
    part_written (position_line v ++ (height_line v.height ++ [])) _ c.from_residual.result c.from_residual.ensures.1 (none_written g.W.Write.contents c.args.writer.now _) (event_parts v) c.event_line.ensures c.in_err-write_whole.ensures.written

pub returns-in_err-write_whole-2-clause-written : goal.returns-in_err-write_whole-2-clause-written
returns-in_err-write_whole-2-clause-written g c =
    let first = more_written (none_written g.W.Write.contents c.args.writer.now _) (event_parts c.args.values) c.event_line.ensures c.in_ok-write_whole.ensures.written in
    part_written (height_line c.args.values.height ++ []) _ c.from_residual-in_err-write_whole-2.result c.from_residual-in_err-write_whole-2.ensures.1 first refl (c.as_slice.ensures.value ∙ c.position_line.ensures) c.in_err-write_whole-2.ensures.written

pub returns-in_err-write_whole-3-clause-written : goal.returns-in_err-write_whole-3-clause-written
returns-in_err-write_whole-3-clause-written g c =
    let first = more_written (none_written g.W.Write.contents c.args.writer.now _) (event_parts c.args.values) c.event_line.ensures c.in_ok-write_whole.ensures.written in
    let second = more_written first refl (c.as_slice.ensures.value ∙ c.position_line.ensures) c.in_ok-write_whole-2.ensures.written in
    part_written [] _ c.from_residual-in_err-write_whole-3.result c.from_residual-in_err-write_whole-3.ensures.1 second refl (c.as_slice-2.ensures.value ∙ c.delta_line.ensures) c.in_err-write_whole-3.ensures.written

pub returns-clause-written : goal.returns-clause-written
returns-clause-written g c =
    let first = more_written (none_written g.W.Write.contents c.args.writer.now _) (event_parts c.args.values) c.event_line.ensures c.in_ok-write_whole.ensures.written in
    let second = more_written first refl (c.as_slice.ensures.value ∙ c.position_line.ensures) c.in_ok-write_whole-2.ensures.written in
    all_written (more_written second refl (c.as_slice-2.ensures.value ∙ c.delta_line.ensures) c.in_ok-write_whole-3.ensures.written)
