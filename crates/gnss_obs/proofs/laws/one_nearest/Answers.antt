use Rattle.gnss_obs.proofs.NearestLaws.{nearest_is}
use Rattle.gnss_obs.proofs.UniqueLaws.{one_nearest}
use Rattle.gnss_obs.proofs.laws.one_nearest.Goals as goal

pub returns-clause-is : goal.returns-clause-is
returns-clause-is c = λ a q some. nearest_is a q some

pub returns-clause-one : goal.returns-clause-one
returns-clause-one c = λ a q t u some p r. one_nearest a q t u some p r
