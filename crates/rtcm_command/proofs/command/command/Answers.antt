use Rattle.rtcm_command.proofs.CommandLemmas.{Served, answered_in_part, failed_to_serve, is_version, refused_at_two, refused_words, served}
use Rattle.rtcm_command.proofs.Names.{ap, devices_of, inr, refl, texts, writer_of}
use Rattle.rtcm_command.proofs.command.command.Goals as goal

pub returns-in-Ok : goal.returns-in-Ok
returns-in-Ok g c =
    let at = devices_of g.R.Read.remaining g.W.Write.contents g.W.Deliver.waiting in
    let e = writer_of g.E.Write.contents g.E.Deliver.waiting in
    let s : Served (at c.args.reader.now c.args.writer.now) (at c.run.new.reader c.run.new.writer) (e c.args.faults.now) (e c.run.new.faults) (e c.exit_status-status.new.faults) (texts c.args.words.now) c.in-Ok.matches c.run.result c.exit_status-status.result = record { is = c.exit_status-status.ensures.value; line = c.exit_status-status.ensures.line; found = c.in-Ok.ensures.asked; end = c.run.ensures } in
    record { status = c.exit_status-status.ensures.range; good = served c.run.result s; stopped = failed_to_serve c.run.result s; refused = refused_at_two c.run.result s }

pub returns-in-Err-clause-good : goal.returns-in-Err-clause-good
returns-in-Err-clause-good g c = λ e. (let good = c.answer.ensures.good e in
    let at = writer_of g.E.Write.contents g.E.Deliver.waiting in
    inr (is_version (texts c.args.words.now) c.in-Err.error c.in-Err.ensures.refused good.0, refl, good.1, ap at good.2))

pub returns-in-Err-clause-stopped : goal.returns-in-Err-clause-stopped
returns-in-Err-clause-stopped g c = λ e.
    let at = devices_of g.R.Read.remaining g.W.Write.contents g.W.Deliver.waiting in
    let w = writer_of g.E.Write.contents g.E.Deliver.waiting in
    answered_in_part (at c.args.reader.now c.args.writer.now) (at c.args.reader.now c.answer.new.writer) (w c.args.faults.now) (w c.answer.new.faults) (texts c.args.words.now) c.in-Err.error c.in-Err.ensures.refused refl (c.answer.ensures.stopped e)

pub returns-in-Err-clause-refused : goal.returns-in-Err-clause-refused
returns-in-Err-clause-refused g c = λ e.
    let refused = c.answer.ensures.refused e in
    let at = writer_of g.E.Write.contents g.E.Deliver.waiting in
    (refused_words (at c.args.faults.now) (at c.answer.new.faults) (texts c.args.words.now) c.in-Err.error c.in-Err.ensures.refused refused.0 refused.1 refused.3, (refl {a = c.args.reader.now}, refused.2))
