use Rattle.rinex_file.proofs.Names.{arith, common_steps, signal_text}
use Rattle.rinex_file.proofs.write.satellite.put_signal.Goals as goal

pub returns-clause-text : goal.returns-clause-text
unfolding signal_text
returns-clause-text c = grind (arith, common_steps)
