use Rattle.gnss_obs.proofs.Names.{◌≡◌, ◌^◌, ◌*ℤ◌, ◌∙◌, ap, pos, sym, subst, lit<, IsRounded, phase_by, hertz_of, Some}
use Rattle.gnss_obs.proofs.NearestLaws.{rounded}
use Rattle.gnss_obs.proofs.observables.phase.Goals as goal

value_is : (c : goal.After-phase_at) → c.phase_at.result ≡ phase_by (Some (hertz_of c.args.signal)) c.args.phase
value_is c = c.phase_at.ensures.value ∙ ap (λ h. phase_by (Some h) c.args.phase) c.hertz.ensures.value

pub returns-clause-rounded : goal.returns-clause-rounded
returns-clause-rounded c =
    subst (IsRounded (λ p. p *ℤ pos (hertz_of c.args.signal)) (2 ^ 31) c.args.phase) (sym (value_is c))
    (rounded (λ p. p *ℤ pos (hertz_of c.args.signal)) (2 ^ 31) c.args.phase (lit< tt))
