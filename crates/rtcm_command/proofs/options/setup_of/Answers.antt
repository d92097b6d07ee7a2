use Rattle.rtcm_command.proofs.Names.{CommandFault, IsErrAnd, IsSetupRefused, Row, Setup, inr, options_of, passed, sym, IsDefined, ◌≡◌, ◌∙◌, ℕ, List, Result, Ok, Err, IfOk, ap, codes, not, bytes_eq, HasUnsignedDigitsIfOk, ExplainsUnsignedError, found_of, wrapped}
use Rattle.std.proofs.Common.{MatchResult, None, arith, subst}
use Rattle.std.proofs.lemmas.Grind.{common_steps}
use Rattle.rtcm_command.specs.SetupOptions.{IsSetupOf}
use Rattle.gnss_obs.specs.declared.fault.PlanFault.{PlanFault}
use Rattle.rinex_file.specs.Texts.{trimmed_texts}
use Rattle.rtcm_command.proofs.OptionLemmas.{number_given}
use Rattle.rtcm_command.proofs.ConvertLemmas.{first_fault}
use Rattle.command_faults.specs.declared.fault.CommandFault.TheVariants as faults
use Rattle.gnss_obs.specs.Plans.{HasSignal}
use Rattle.gnss_obs.specs.Values.{PlanValue}
use Rattle.rinex_file.specs.Texts as texts
use Rattle.rtcm_command.specs.SetupOptions.{HasSetupFault, plan_set, plan_texts, texts_set}
use Rattle.rtcm_command.proofs.options.setup_of.Goals as goal

-- a value that is the defined one, if there is one
so : {A : Type 0} (May : Type 0) (d r : Result A PlanFault) → IsDefined May d r → IfOk r (λ x. d ≡ Ok x)
so May d (Ok x) h = h
so May d (Err e) h = tt

-- the error of a result of which another one is with its error changed
changed : {T D E : Type 0} (Q : D → E → Type 0) (r : Result T D) (s : Result T E) (f : E) → MatchResult r (λ x. s ≡ Ok x) (λ e. IsErrAnd s (Q e)) → s ≡ Err f → IsErrAnd r (λ e. Q e f)
changed Q r s f cases is = grind arith

plan_refused : (options : List Row) (r : Result PlanValue PlanFault) (f : CommandFault) → texts.first_fault (texts_set options) texts.fields ≡ None → IsDefined (HasSignal (plan_texts options)) (plan_set options) r → IsErrAnd r (λ e. f ≡ faults.Plan e) → HasSetupFault options f
plan_refused options (Err e) f none defined is = subst (HasSetupFault options) (sym is) (none, defined)
plan_refused options (Ok p) f none defined is = grind arith

refused : (fault : CommandFault) (options : List Row) (r : Result Setup CommandFault) → IsErrAnd r (λ y. y ≡ fault) → IsSetupRefused options fault → MatchResult r (IsSetupOf options) (IsSetupRefused options)
refused fault options r is h = passed r _ (λ (q : Result Setup CommandFault). MatchResult q (IsSetupOf options) (IsSetupRefused options)) is h

pub returns-in_err-texts : goal.returns-in_err-texts
returns-in_err-texts c =
    refused _ (options_of c.args.options.now) c.from_residual-in_err-texts.result c.from_residual-in_err-texts.ensures.1
    (first_fault c.in_err-texts.field-0.0 (options_of c.args.options.now) c.in_ok-start.start c.in_ok-start.ensures (sym c.values_of.ensures ∙ c.in_ok-initial.was) (sym c.channels_of.ensures ∙ c.in_ok-channels.was) (inr (c.in_ok-choice.choice, c.in_ok-choice.ensures, grind (arith, common_steps))))

pub returns-in_err-plan : goal.returns-in_err-plan
returns-in_err-plan c =
    refused _ (options_of c.args.options.now) c.from_residual-in_err-plan.result c.from_residual-in_err-plan.ensures.1
    (first_fault c.in_err-plan.field-0.0 (options_of c.args.options.now) c.in_ok-start.start c.in_ok-start.ensures (sym c.values_of.ensures ∙ c.in_ok-initial.was) (sym c.channels_of.ensures ∙ c.in_ok-channels.was) (inr (
      c.in_ok-choice.choice,
      c.in_ok-choice.ensures,
      plan_refused (options_of c.args.options.now) c.plan_of.result c.in_err-plan.field-0.0 (grind (arith, common_steps)) c.plan_of.ensures (changed _ c.plan_of.result _ c.in_err-plan.field-0.0 c.map_err-2.ensures.cases c.in_err-plan.was),
    )))

pub returns : goal.returns
returns c =
    let f = found_of c.args.options.now in
    record {
      texts = wrapped _ _ c.new.result _ _ c.new.ensures.texts c.map_err.ensures.cases c.in_ok-texts.was ∙ ap trimmed_texts c.texts_of.ensures;
      plan = (
        c.in_ok-plan.plan,
        c.in_ok-channels.channels,
        wrapped _ _ c.plan_of.result _ _ (so _ _ c.plan_of.result c.plan_of.ensures) c.map_err-2.ensures.cases c.in_ok-plan.was,
        sym c.channels_of.ensures ∙ c.in_ok-channels.was,
        c.with_channels.ensures,
      );
      start = c.in_ok-start.ensures;
      station = c.station_of.ensures;
      gather = c.gather_of.ensures ∙ ap (λ (t : List ℕ). not (bytes_eq t (codes "time"))) c.text.ensures;
      initial = sym c.values_of.ensures ∙ c.in_ok-initial.was;
      leap = c.leap_seconds_of-leap_seconds.ensures;
      choice = c.in_ok-choice.ensures;
      forms = c.forms_of.ensures;
      limit = (
        c.get_one.result,
        number_given (ExplainsUnsignedError 10) HasUnsignedDigitsIfOk 64 f (codes "limit") _ c.get_one.ensures.none c.get_one.ensures.value,
        c.unwrap_or.ensures,
      );
    }
