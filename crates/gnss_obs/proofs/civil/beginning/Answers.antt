use Rattle.gnss_obs.proofs.CivilLemmas.{begins}
use Rattle.gnss_obs.proofs.civil.beginning.Goals as goal

pub returns : goal.returns
returns c = begins c.constant.result c.constant.ensures.date c.constant.ensures.time
