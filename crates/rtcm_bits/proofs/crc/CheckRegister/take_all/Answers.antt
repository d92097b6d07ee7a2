use Rattle.rtcm_bits.proofs.Names.{◌∙◌}
use Rattle.rtcm_bits.proofs.RegisterLemmas.{check_append}
use Rattle.rtcm_bits.proofs.crc.CheckRegister.take_all.Goals as goal

pub returns : goal.returns
returns c = λ front e. check_append front c.args.bytes.now c.self.inside.register c.after_all-self-inside.result (c.self.view_is ∙ e) c.after_all-self-inside.ensures
