use Rattle.rtcm_bits.proofs.Names.{◌∙◌}
use Rattle.rtcm_bits.proofs.RegisterLemmas.{check_push}
use Rattle.rtcm_bits.proofs.crc.CheckRegister.take.Goals as goal

pub returns : goal.returns
returns c = λ bytes e. check_push bytes c.self.inside.register c.by_table-self-inside.result c.args.byte (c.self.view_is ∙ e) c.by_table-self-inside.ensures
