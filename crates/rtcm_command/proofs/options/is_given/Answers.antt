use Rattle.rtcm_command.proofs.OptionLemmas.{is_given_by}
use Rattle.rtcm_command.proofs.Names.{◌∙◌, found_of}
use Rattle.rtcm_command.proofs.options.is_given.Goals as goal

pub returns : goal.returns
returns c = c.is_some.ensures ∙ is_given_by (found_of c.args.options.now) c.args.name.now c.get_str.result c.get_str.ensures
