use Rattle.rinex_file.proofs.GatheredFile.{gathered_file}
use Rattle.rinex_file.proofs.laws.values.Goals as goal

pub returns : goal.returns
returns c = gathered_file
