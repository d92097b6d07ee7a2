use Rattle.rtcm_command.proofs.OptionLemmas.{number_given}
use Rattle.rtcm_command.proofs.Names.{◌∙◌, ap, unwrap_or, codes, HasUnsignedDigitsIfOk, ExplainsUnsignedError, found_of}
use Rattle.rtcm_command.proofs.options.leap_seconds_of.Goals as goal

pub returns : goal.returns
returns c = (
  c.get_one.result,
  number_given (ExplainsUnsignedError 10) HasUnsignedDigitsIfOk 8 (found_of c.args.options.now) (codes "leap-seconds") _ c.get_one.ensures.none c.get_one.ensures.value,
  c.unwrap_or.ensures ∙ ap (unwrap_or c.get_one.result) c.usual_leap_seconds.ensures,
)
