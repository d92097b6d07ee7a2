use Rattle.rtcm_msg.proofs.PairLaws.{all_left}
use Rattle.rtcm_msg.proofs.pairs.CellsLeft.of.Goals as goal

pub returns-clause-all : goal.returns-clause-all
returns-clause-all c = all_left c.args.masks.now c.satellites-satellites.result c.signals.result c.cells.ensures.sets c.satellites-satellites.ensures c.signals.ensures
