use Rattle.rtcm_inspect.proofs.Names.{leap_with, ◌∙◌, ap}
use Rattle.rtcm_inspect.proofs.printed_week.leap_by.Goals as goal

pub returns : goal.returns
returns c = λ fs h. c.leap_with-2.ensures fs h ∙ ap (leap_with c.args.signals.now.station fs c.args.zero) (c.leap_with.ensures fs h)
