use Rattle.devices.proofs.PrintingLaws.{then_delivered, unmapped}
use Rattle.devices.proofs.Names.{DeviceFailed, WritesText, writer_of, Result, subst, ⊤}
use Rattle.devices.proofs.printing.print_text.Goals as goal

pub returns : goal.returns
returns g c =
    let ok = unmapped _ c.write_whole.result _ _ c.map_err.ensures.cases c.in_ok-map_err.was in
    let written = subst (λ (r : Result ⊤ DeviceFailed). WritesText r g.W.Write.contents c.args.writer.now c.write_whole.new.self c.args.text.now) ok c.write_whole.ensures.written in
    let at = writer_of g.W.Write.contents g.W.Deliver.waiting in
    then_delivered c.args.fault c.deliver_waiting.result (at c.args.writer.now) (at c.write_whole.new.self) (at c.deliver_waiting.new.writer) c.args.text.now written.device.1 written.whole c.deliver_waiting.ensures
