use Rattle.rtcm_convert.proofs.KeptLemmas.{locks_all}
use Rattle.rtcm_convert.proofs.converter.Converter.locks.Goals as goal

pub returns-clause-all : goal.returns-clause-all
returns-clause-all c = rw (← c.self.view_is) (locks_all c.closed_stay.ensures.all _ c.locks.result c.locks.ensures.keys)
