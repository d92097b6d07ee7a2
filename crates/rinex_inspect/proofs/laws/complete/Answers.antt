use Rattle.rinex_inspect.proofs.MissingLemmas.{counts_what_is_there}
use Rattle.rinex_inspect.proofs.laws.complete.Goals as goal

pub returns-clause-counts : goal.returns-clause-counts
returns-clause-counts c = counts_what_is_there
