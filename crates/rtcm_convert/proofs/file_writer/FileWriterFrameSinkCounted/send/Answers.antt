use Rattle.rtcm_convert.proofs.StreamLemmas.{files_unsent}
use Rattle.rtcm_convert.proofs.Names.{on_err_weaker}
use Rattle.rtcm_convert.proofs.file_writer.FileWriterFrameSinkCounted.send.Goals as goal

pub returns-clause-part : goal.returns-clause-part
returns-clause-part g c =
    let n = c.flush_whole.ensures in
    on_err_weaker c.flush_whole.result (λ failed s o ps fs x. files_unsent g.W.Write.contents n.kept failed n.device.2 x) n.device.0
