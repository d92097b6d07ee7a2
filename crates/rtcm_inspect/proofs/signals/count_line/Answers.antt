use Rattle.rtcm_inspect.proofs.Names.{arith, common_steps, add_text, add_word, end_line, count_line}
use Rattle.rtcm_inspect.proofs.signals.count_line.Goals as goal

pub returns : goal.returns
unfolding count_line
returns c = grind (arith, common_steps, add_text, add_word, end_line)
