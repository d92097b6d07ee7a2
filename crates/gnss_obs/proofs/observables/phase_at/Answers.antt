use Rattle.gnss_obs.proofs.Names.{◌≡◌, ◌^◌, ◌<◌, unsigned_abs, arith, sym, subst, ints, nearest_phase, common_steps}
use Rattle.gnss_obs.proofs.SizeLaws.{cycles_small, kept}
use Rattle.gnss_obs.proofs.observables.phase_at.Goals as goal

value_is : (c : goal.After-new) → c.new.result ≡ nearest_phase c.in-Some-Some.h c.in-Some-Some.p
value_is c = grind (arith, common_steps, ints, kept)

pub returns-in-Some-Some-clause-bound : goal.returns-in-Some-Some-clause-bound
returns-in-Some-Some-clause-bound c =
    subst (λ t. unsigned_abs t < 10 ^ 12) (sym (value_is c)) (cycles_small c.in-Some-Some.h c.in-Some-Some.p (rw c.in-Some-Some.is-1 at c.requires.carrier).1 (c.requires.range c.in-Some-Some.p c.in-Some-Some.is-0))
