use Rattle.line_texts.specs.LeapSeconds.{leap_in}
use Rattle.line_texts.proofs.Names.{◌∙◌, ap}
use Rattle.line_texts.proofs.leap_seconds.leap_at.Goals as goal

pub returns : goal.returns
returns c = c.leap_in.ensures ∙ ap leap_in c.civil.ensures.walk
