use Rattle.rtcm_bits.proofs.Names.{◌∙◌, ap, add-zero, looked}
use Rattle.rtcm_bits.proofs.window.Window.look.Goals as goal

pub returns-clause-counted : goal.returns-clause-counted
returns-clause-counted c = c.count_looks.ensures.counted ∙ ap (looked c.args.self.now) (add-zero c.args.i)
