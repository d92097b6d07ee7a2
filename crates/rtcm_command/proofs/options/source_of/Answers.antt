use Rattle.rtcm_command.proofs.Names.{is_some, ap, codes, inl, refl, sym, None, Some, found_of}
use Rattle.rtcm_command.proofs.OptionLemmas.{text_given}
use Rattle.rtcm_command.proofs.options.source_of.Goals as goal

pub returns-in-true-Some : goal.returns-in-true-Some
returns-in-true-Some c = inl (
  sym c.in-true-Some.ensures,
  sym (ap is_some (text_given (found_of c.args.options.now) (codes "near") c.get_str.result (Some c.in-true-Some.field-0-1) c.get_str.ensures c.in-true-Some.is-1)),
  refl,
)

pub returns-in-true-None : goal.returns-in-true-None
returns-in-true-None c = inl (
  sym c.in-true-None.ensures,
  sym (text_given (found_of c.args.options.now) (codes "near") c.get_str.result None c.get_str.ensures c.in-true-None.is-1),
  refl,
)
