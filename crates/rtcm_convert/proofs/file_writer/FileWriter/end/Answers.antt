use Rattle.rtcm_convert.proofs.PartLemmas.{goes_on-kept, goes_on-front}
use Rattle.rtcm_convert.proofs.TakeLemmas.{file_whole, file_part}
use Rattle.rtcm_convert.proofs.Names.{◌∙◌, ap, on_err_weaker, on_ok_weaker, GathererValue}
use Rattle.rtcm_convert.proofs.file_writer.FileWriter.end.Goals as goal

pub returns-in-Err : goal.returns-in-Err
returns-in-Err g c =
    let e = c.in-Err.ensures in
    record { whole = tt; same = e.same.3; part = file_part e.written.part c.requires c.end.ensures.ended c.end.ensures.closes; device = e.written.device; sent = tt; ended = ap (λ (v : GathererValue). v.has_ended) e.same.0 ∙ c.end.ensures.ended }

pub returns-clause-part : goal.returns-clause-part
returns-clause-part g c =
    let e = c.in_default.ensures in
    let whole = file_whole c.closed_stay.ensures.all c.choices.ensures.none c.args.self.now c.write_closed.new.self c.end.new.self _ _ (record { gatherer = e.same.0; texts = e.same.1; set = e.same.2; epochs = e.now.0; values = e.now.1; out = e.written.whole }) c.requires c.end.ensures.ended c.end.ensures.closes in
    on_err_weaker c.flush_whole.result (λ _ s fs x. goes_on-front (goes_on-kept (whole s fs x).0 c.flush_whole.ensures.kept)) c.flush_whole.ensures.device.0

pub returns-clause-whole : goal.returns-clause-whole
returns-clause-whole g c =
    let e = c.in_default.ensures in
    let whole = file_whole c.closed_stay.ensures.all c.choices.ensures.none c.args.self.now c.write_closed.new.self c.end.new.self _ _ (record { gatherer = e.same.0; texts = e.same.1; set = e.same.2; epochs = e.now.0; values = e.now.1; out = e.written.whole }) c.requires c.end.ensures.ended c.end.ensures.closes in
    on_ok_weaker c.flush_whole.result (λ _ s fs x. let p = whole s fs x in (goes_on-kept p.0 c.flush_whole.ensures.kept, p.1, p.2, p.3)) c.flush_whole.ensures.device.1
