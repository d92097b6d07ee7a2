use Rattle.rtcm_convert.proofs.Names.{sym, ap, refl, ◌∙◌, message_with, framed, on_failure}
use Rattle.rtcm_convert.proofs.StreamLemmas as sink
use Rattle.rtcm_convert.proofs.TakeLemmas as writer
use Rattle.rtcm_convert.proofs.file_writer.FileWriterFrameSinkCounted.take.Goals as goal

pub returns-in-Err-clause-whole : goal.returns-in-Err-clause-whole
returns-in-Err-clause-whole g c =
    sink.files_more (framed c.args.frame.now)
    (writer.files_same (framed c.args.frame.now) c.count.new.self (ap (message_with c.args.self.now.set) (sym c.deref.ensures.0) ∙ c.in-Err.ensures.exact)
    c.count.ensures) (refl, refl)

pub returns-in_ok-kind-in-Ok-clause-whole : goal.returns-in_ok-kind-in-Ok-clause-whole
returns-in_ok-kind-in-Ok-clause-whole g c =
    let e = c.in_ok-kind-in-Ok.ensures in
    sink.files_more (framed c.args.frame.now)
    (writer.files_more (framed c.args.frame.now) c.count-in-Ok.new.self
    (ap (message_with c.args.self.now.set) (sym c.deref.ensures.0) ∙ c.in-Ok.ensures.exact) c.in-Ok.ensures.message e.whole e.kind e.same c.count-in-Ok.ensures)
    (e.device.1, e.device.2)

pub returns-in_err-kind-in-Ok-clause-part : goal.returns-in_err-kind-in-Ok-clause-part
returns-in_err-kind-in-Ok-clause-part g c =
    let e = c.in_err-kind-in-Ok.ensures in
    on_failure _ _ (sink.files_part (framed c.args.frame.now)
    (writer.files_part (framed c.args.frame.now) (ap (message_with c.args.self.now.set) (sym c.deref.ensures.0) ∙ c.in-Ok.ensures.exact) e.part)
    (e.device.0, e.device.2))
