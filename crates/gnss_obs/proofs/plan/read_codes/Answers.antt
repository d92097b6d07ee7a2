use Rattle.gnss_obs.proofs.Names.{inl, inr, refl, sym, ap, subst, rules, ◌∙◌, err_from_is_err_and, indices, IsOf, signals_after, between_commas}
use Rattle.gnss_obs.proofs.PlanLaws.{first_read, listed_code, first_some, first_none, next_code, code_fault, last_code, none_of}
use Rattle.gnss_obs.proofs.plan.read_codes.Goals as goal

pub loop-code-init : goal.loop-code-init
loop-code-init c = (
  search rules,
  ap (λ l. signals_after c.args.system (indices l) (between_commas c.args.text.now)) c.requires,
  subst (IsOf c.args.system) (sym c.requires) (none_of c.args.system),
  inl refl,
)

pub loop-code-preserved : goal.loop-code-preserved
loop-code-preserved c =
    let split = first_some c.loop-code.rest.now c.split_once.result _ c.split_once.ensures.cases c.in-Some.is in (
      search rules,
      next_code c.args.system c.loop-code.signals c.add_code.new.signals c.loop-code.rest.now c.in-Some.code.now c.in-Some.after.now split c.in_ok-add_code.ensures.0 ∙ c.loop-code.invariant.1,
      c.in_ok-add_code.ensures.1,
      inr (first_read c.args.system _ _ c.in-Some.code.now split c.loop-code.invariant.3 (listed_code c.args.system c.loop-code.signals c.in-Some.code.now (_, c.in_ok-add_code.ensures.0))),
    )

pub returns-in_err-add_code : goal.returns-in_err-add_code
returns-in_err-add_code c =
    let split = first_some c.loop-code.rest.now c.split_once.result _ c.split_once.ensures.cases c.in-Some.is in
    let error = err_from_is_err_and c.from_residual.result c.from_residual.ensures.1 in
    rw (error.1, error.2) (code_fault _ c.args.system c.loop-code.signals c.loop-code.rest.now _ split c.loop-code.invariant.1
    (λ may. first_read c.args.system _ _ c.in-Some.code.now split c.loop-code.invariant.3 (listed_code c.args.system c.loop-code.signals c.in-Some.code.now may)) c.in_err-add_code.ensures)

pub returns : goal.returns
returns c =
    let alone = first_none c.loop-code.rest.now c.split_once.result c.split_once.ensures.cases c.in_default.is in
    last_code _ c.args.system c.loop-code.signals c.add_code-2.new.signals c.loop-code.rest.now c.add_code-2.result alone c.loop-code.invariant.1
    (λ may. first_read c.args.system _ _ c.loop-code.rest.now alone c.loop-code.invariant.3 (listed_code c.args.system c.loop-code.signals c.loop-code.rest.now may)) c.add_code-2.ensures
