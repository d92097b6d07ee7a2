use Rattle.rtcm_convert.proofs.EndLemmas.{written_stays, written_grows}
use Rattle.rtcm_convert.proofs.laws.prefix.Goals as goal

pub returns-clause-file : goal.returns-clause-file
returns-clause-file c = written_stays c.filed.ensures.file c.prefix.ensures.frames

pub returns-clause-grows : goal.returns-clause-grows
returns-clause-grows c = written_grows c.filed.ensures.grows c.prefix.ensures.decided
