use Rattle.rtcm_command.proofs.NearOptionLemmas.{dated_by_near}
use Rattle.rtcm_command.proofs.laws.near.Goals as goal

pub returns : goal.returns
returns c = dated_by_near c.first_week.ensures.near c.near.ensures.dated c.near.ensures.small
