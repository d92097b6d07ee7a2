use Rattle.rinex_file.proofs.Names.{rules}
use Rattle.rinex_file.proofs.read.parser_state.planned_signals.Goals as goal

pub returns : goal.returns
returns c = λ s. let given = c.each.ensures s in search rules
