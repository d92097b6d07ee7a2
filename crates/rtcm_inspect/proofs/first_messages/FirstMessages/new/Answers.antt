use Rattle.rtcm_inspect.proofs.Names.{refl}
use Rattle.rtcm_inspect.proofs.first_messages.FirstMessages.new.Goals as goal

pub returns : goal.returns
returns c = λ wanted. record { point = refl; tows = c.new.ensures wanted; stations = refl; in_range = tt }
