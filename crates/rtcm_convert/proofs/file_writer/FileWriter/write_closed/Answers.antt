use Rattle.devices.proofs.WritingLaws.{more_written, none_written, part_written}
use Rattle.rtcm_convert.proofs.TextLemmas.{added_lent}
use Rattle.rtcm_convert.proofs.Names.{interval_in, ◌∙◌, [], append-nil, refl, sym, closed_in}
use Rattle.rtcm_convert.proofs.file_writer.FileWriter.write_closed.Goals as goal

pub returns-in_err-open-clause-written : goal.returns-in_err-open-clause-written
returns-in_err-open-clause-written g c =
    let f = c.args.self.now in
    part_written _ _ c.from_residual.result c.from_residual.ensures.1 (none_written g.W.Write.contents c.args.writer.now _)
    (added_lent f.texts (interval_in f.gatherer) f.values (closed_in f.gatherer) f.gatherer.values refl c.in-Some.ensures.closed (sym c.has_satellites.ensures ∙ c.if-not-has_satellites.false)) refl c.in_err-open.ensures

pub returns-in_err-write_epoch-clause-written : goal.returns-in_err-write_epoch-clause-written
returns-in_err-write_epoch-clause-written g c =
    let f = c.args.self.now in
    let opened = more_written (none_written g.W.Write.contents c.args.writer.now _)
    (added_lent f.texts (interval_in f.gatherer) f.values (closed_in f.gatherer) f.gatherer.values c.plan.ensures c.in-Some.ensures.closed (sym c.has_satellites.ensures ∙ c.if-not-has_satellites.false)) refl c.in_ok-open.ensures in
    part_written [] _ c.from_residual-in_err-write_epoch.result c.from_residual-in_err-write_epoch.ensures.1 opened (sym (append-nil _)) refl c.in_err-write_epoch.ensures.written
