use Rattle.std.proofs.Common.{◌∙◌, true, refl}
use Rattle.obs_epoch.proofs.ViewLemmas.{loaded_view}
use Rattle.obs_epoch.proofs.gather.Gatherer.load_view.Goals as goal

pub returns-in-Gps : goal.returns-in-Gps
returns-in-Gps c = rw (c.in-Msm.is) (c.load_of.ensures ∙ loaded_view c.in-Msm.m true c.args.self.now refl)

pub returns-in-Galileo : goal.returns-in-Galileo
returns-in-Galileo c = rw (c.in-Msm.is) (c.load_of-in-Galileo.ensures ∙ loaded_view c.in-Msm.m true c.args.self.now refl)

pub returns-in_default : goal.returns-in_default
returns-in_default c = rw (c.in-Msm.is) (c.load_of-in_default.ensures ∙ loaded_view c.in-Msm.m true c.args.self.now refl)
