use Rattle.gnss_obs.proofs.LockLaws.{rising4, rising7, counts7, doubles7}
use Rattle.gnss_obs.proofs.laws.lock_times.Goals as goal

pub returns-clause-rising4 : goal.returns-clause-rising4
returns-clause-rising4 c = rising4

pub returns-clause-rising7 : goal.returns-clause-rising7
returns-clause-rising7 c = rising7

pub returns-clause-counts7 : goal.returns-clause-counts7
returns-clause-counts7 c = counts7

pub returns-clause-doubles7 : goal.returns-clause-doubles7
returns-clause-doubles7 c = doubles7
