use Rattle.rtcm_inspect.proofs.Names.{arith, common_steps, le-leb, lt-leb, number_word}
use Rattle.rtcm_inspect.proofs.listing.add_message_number.Goals as goal

pub returns-in-Some : goal.returns-in-Some
unfolding number_word
returns-in-Some c = grind (arith, common_steps, le-leb)

pub returns-in-None : goal.returns-in-None
unfolding number_word
returns-in-None c = grind (arith, common_steps, lt-leb)
