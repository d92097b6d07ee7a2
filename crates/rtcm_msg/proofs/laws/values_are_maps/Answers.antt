use Rattle.rtcm_msg.proofs.MeaningLaws.{satellite_keys, cell_keys, pairs_rising, value_one}
use Rattle.rtcm_msg.proofs.MeaningAll.{value_all}
use Rattle.rtcm_msg.proofs.laws.values_are_maps.Goals as goal

pub returns-clause-satellites : goal.returns-clause-satellites
returns-clause-satellites c = λ sw cw v h. satellite_keys sw cw v h

pub returns-clause-cells : goal.returns-clause-cells
returns-clause-cells c = λ sw cw v h. cell_keys sw cw v h

pub returns-clause-rising : goal.returns-clause-rising
returns-clause-rising c = λ s. pairs_rising s

pub returns-clause-one : goal.returns-clause-one
returns-clause-one c = λ sw cw v w h k e. value_one sw cw v w h k e

pub returns-clause-all : goal.returns-clause-all
returns-clause-all c = λ sw cw m h. value_all sw cw m h
