use Rattle.rinex_file.proofs.Names.{subst, Expected, IsExpectedAt}
use Rattle.rinex_file.proofs.read.epochs.fault_at.Goals as goal

pub returns-in-Satellite-clause-faulty : goal.returns-in-Satellite-clause-faulty
returns-in-Satellite-clause-faulty c = λ input faulty expected. (faulty, subst (λ (d : Expected). IsExpectedAt d input c.args.number) c.in-Satellite.is expected)
