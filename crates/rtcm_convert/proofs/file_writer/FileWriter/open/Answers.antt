use Rattle.rtcm_convert.proofs.TextLemmas.{opening_later}
use Rattle.rtcm_convert.proofs.Names.{◌∙◌, List, ℕ, sym, WritesText}
use Rattle.rtcm_convert.proofs.file_writer.FileWriter.open.Goals as goal

pub returns-in-Some-2 : goal.returns-in-Some-2
returns-in-Some-2 g c =
    opening_later (λ (l : List ℕ). WritesText c.write_event.result g.W.Write.contents c.args.writer.now c.write_event.new.writer l)
    _ _ _ c.args.epoch.now.epoch c.in-Some.is c.station_values-values.ensures (sym c.is_same.ensures.value ∙ c.if-is_same.false) c.write_event.ensures.written
