use Rattle.rinex_inspect.proofs.Names.{refl}
use Rattle.rinex_inspect.proofs.table.Table.new.Goals as goal

pub returns : goal.returns
returns c = record { epochs = refl; time = c.within.ensures; records = λ s. (c.in_ok-records.ensures s).1 }
