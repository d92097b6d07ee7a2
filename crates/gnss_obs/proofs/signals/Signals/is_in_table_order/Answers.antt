use Rattle.gnss_obs.proofs.Names.{◌<◌, subst, arith, RiseTo, unsorted, indices}
use Rattle.gnss_obs.proofs.signals.Signals.is_in_table_order.Goals as goal

pub returns : goal.returns
returns c = λ e.
    let low : c.self.inside.least_next < unsorted = grind (arith, e) in
    (c.self.inside.least_next, subst (λ keys. RiseTo c.self.inside.least_next (indices keys)) c.self.view_is (c.self.invariant.1 low))
