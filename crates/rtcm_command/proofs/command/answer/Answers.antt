use Rattle.rtcm_command.proofs.Names.{rules, writer_of}
use Rattle.rtcm_command.proofs.CommandLemmas.{refusal_printed}
use Rattle.rtcm_command.proofs.command.answer.Goals as goal

pub returns-in_default : goal.returns-in_default
returns-in_default g c =
    let at = writer_of g.E.Write.contents g.E.Deliver.waiting in
    let some = refusal_printed (at c.args.faults.now) (at c.print_refusal.new.faults) c.refusal_text.result c.refusal_text.ensures c.print_refusal.ensures in
    search rules
