use Rattle.rtcm_bits.proofs.Names.{arith, length-append, append-nil, length-drop, length-replicate, take_rest}
use Rattle.rtcm_bits.proofs.FoldLemmas.{last_start, last_window}
use Rattle.rtcm_bits.proofs.LongLemmas.{last_more, last_left}
use Rattle.rtcm_bits.proofs.RegisterLemmas.{check_below}
use Rattle.rtcm_bits.proofs.SumLemmas.{number_is}
use Rattle.rtcm_bits.proofs.crc.after_folded.Goals as goal

pub loop-taken-init : goal.loop-taken-init
loop-taken-init c = grind (arith, append-nil, last_start)

pub loop-taken-preserved : goal.loop-taken-preserved
loop-taken-preserved c = grind (arith, length-append, length-drop, length-replicate, last_window, last_more)

pub returns-clause-value : goal.returns-clause-value
returns-clause-value c = grind (arith, last_left, take_rest, number_is, check_below)
