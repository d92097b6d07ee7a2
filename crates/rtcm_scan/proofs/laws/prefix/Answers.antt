use Rattle.rtcm_scan.proofs.PrefixLemmas.{stays_decided}
use Rattle.rtcm_scan.proofs.laws.prefix.Goals as goal

pub returns-clause-decided : goal.returns-clause-decided
returns-clause-decided c = λ b t. (stays_decided b t).0

pub returns-clause-frames : goal.returns-clause-frames
returns-clause-frames c = λ b t. (stays_decided b t).1
