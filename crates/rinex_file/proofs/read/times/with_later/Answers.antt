use Rattle.rinex_file.proofs.Reading.Summary.{times_more}
use Rattle.rinex_file.proofs.Names.{subst, AreTimesOrNone}
use Rattle.rinex_file.proofs.read.times.with_later.Goals as goal

pub returns : goal.returns
returns c = λ all are. times_more all c.in-Some.times c.args.time _ (subst (AreTimesOrNone all) c.in-Some.is are) (cc)
