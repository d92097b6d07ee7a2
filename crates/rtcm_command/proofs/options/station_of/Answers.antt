use Rattle.rtcm_command.proofs.OptionLemmas.{number_given}
use Rattle.rtcm_command.proofs.Names.{codes, HasUnsignedDigitsIfOk, ExplainsUnsignedError, found_of}
use Rattle.rtcm_command.proofs.options.station_of.Goals as goal

pub returns : goal.returns
returns c = number_given (ExplainsUnsignedError 10) HasUnsignedDigitsIfOk 16 (found_of c.args.options.now) (codes "station") _ c.get_one.ensures.none c.get_one.ensures.value
