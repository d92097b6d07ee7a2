use Rattle.rtcm_convert.proofs.TextLemmas.{text_of-file}
use Rattle.rtcm_convert.proofs.laws.text.Goals as goal

pub returns : goal.returns
returns c = text_of-file c.file.ensures.text
