use Rattle.gnss_obs.proofs.Names.{◌≡◌, ◌*◌, ◌*ℤ◌, ◌-ℤ◌, ◌∙◌, ap, pos, sym, subst, lit<, Some, IsRounded, doppler_by, light, hertz_of}
use Rattle.gnss_obs.proofs.NearestLaws.{rounded}
use Rattle.gnss_obs.proofs.observables.doppler.Goals as goal

value_is : (c : goal.After-doppler_at) → c.doppler_at.result ≡ doppler_by (Some (hertz_of c.args.signal)) c.args.rate
value_is c = c.doppler_at.ensures.value ∙ ap (λ h. doppler_by (Some h) c.args.rate) c.hertz.ensures.value

pub returns-clause-rounded : goal.returns-clause-rounded
returns-clause-rounded c =
    subst (IsRounded (λ v. pos 0 -ℤ (v *ℤ pos (hertz_of c.args.signal))) (10 * light) c.args.rate) (sym (value_is c))
    (rounded (λ v. pos 0 -ℤ (v *ℤ pos (hertz_of c.args.signal))) (10 * light) c.args.rate (lit< tt))
