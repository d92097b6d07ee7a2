use Rattle.rtcm_command.proofs.OptionLemmas.{both_given}
use Rattle.command_faults.specs.declared.fault.CommandFault.TheVariants as faults
use Rattle.command_faults.specs.declared.fault.DateOption.TheVariants as dated
use Rattle.rtcm_command.proofs.Names.{codes, refl, None, Some, found_of, IsStartFault, IsStartOf, Near, Week}
use Rattle.rtcm_command.proofs.options.start_of.Goals as goal

pub returns-in-Some : goal.returns-in-Some
returns-in-Some c =
    both_given (λ week near. IsStartOf week near (Week c.in-Some.week)) (found_of c.args.options.now) (codes "week") (codes "near") c.get_str.result (Some c.in-Some-None.text) c.get_str-2.result None
    c.get_str.ensures c.in-Some-None.is-0 c.get_str-2.ensures c.in-Some-None.is-1 (c.in-Some.week, c.in-Some.ensures, refl)

pub returns-in-None : goal.returns-in-None
returns-in-None c =
    both_given (λ week near. IsStartFault week near (faults.BadDate dated.Week)) (found_of c.args.options.now) (codes "week") (codes "near") c.get_str.result (Some c.in-Some-None.text) c.get_str-2.result None
    c.get_str.ensures c.in-Some-None.is-0 c.get_str-2.ensures c.in-Some-None.is-1 (refl, c.in-None.ensures)

pub returns-in-Some-hour_of : goal.returns-in-Some-hour_of
returns-in-Some-hour_of c =
    both_given (λ week near. IsStartOf week near (Near c.in-Some-hour_of.noon)) (found_of c.args.options.now) (codes "week") (codes "near") c.get_str.result None c.get_str-2.result (Some c.in-None-Some.text)
    c.get_str.ensures c.in-None-Some.is-0 c.get_str-2.ensures c.in-None-Some.is-1 (c.in-Some-hour_of.noon, c.in-Some-hour_of.ensures, refl)

pub returns-in-None-hour_of : goal.returns-in-None-hour_of
returns-in-None-hour_of c =
    both_given (λ week near. IsStartFault week near (faults.BadDate dated.Near)) (found_of c.args.options.now) (codes "week") (codes "near") c.get_str.result None c.get_str-2.result (Some c.in-None-Some.text)
    c.get_str.ensures c.in-None-Some.is-0 c.get_str-2.ensures c.in-None-Some.is-1 (refl, c.in-None-hour_of.ensures)

pub returns-in-None-None : goal.returns-in-None-None
returns-in-None-None c =
    both_given (λ week near. IsStartFault week near faults.OneOf) (found_of c.args.options.now) (codes "week") (codes "near") c.get_str.result None c.get_str-2.result None
    c.get_str.ensures c.in-None-None.is-0 c.get_str-2.ensures c.in-None-None.is-1 refl

pub returns-in-Some-Some : goal.returns-in-Some-Some
returns-in-Some-Some c =
    both_given (λ week near. IsStartFault week near faults.OneOf) (found_of c.args.options.now) (codes "week") (codes "near") c.get_str.result (Some c.in-Some-Some.field-0-0) c.get_str-2.result (Some c.in-Some-Some.field-0-1)
    c.get_str.ensures c.in-Some-Some.is-0 c.get_str-2.ensures c.in-Some-Some.is-1 refl
