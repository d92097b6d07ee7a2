use Rattle.rinex_file.proofs.Rows.Trimmed.{cut_more, cut_enough}
use Rattle.rinex_file.proofs.Names.{arith, trimmed}
use Rattle.rinex_file.proofs.write.satellite.trimmed_len.Goals as goal

pub loop-end-preserved : goal.loop-end-preserved
loop-end-preserved c = grind (arith, cut_more)

pub returns-else-text-end-eq32-clause-text : goal.returns-else-text-end-eq32-clause-text
returns-else-text-end-eq32-clause-text c = grind (arith, cut_enough)

pub returns-after-loop-end-clause-text : goal.returns-after-loop-end-clause-text
unfolding trimmed
returns-after-loop-end-clause-text c = grind arith
