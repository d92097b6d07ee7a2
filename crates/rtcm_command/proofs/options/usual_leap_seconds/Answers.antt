use Rattle.rtcm_command.proofs.Names.{◌∙◌, ap, sym, usual_leap}
use Rattle.rtcm_command.proofs.options.usual_leap_seconds.Goals as goal

pub returns-in-Near : goal.returns-in-Near
returns-in-Near c = c.leap_at.ensures ∙ ap usual_leap (sym c.in-Near.is)
