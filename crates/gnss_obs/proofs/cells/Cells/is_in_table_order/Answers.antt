use Rattle.gnss_obs.proofs.Names.{◌<◌, map, subst, arith, slot, RiseTo, unsorted}
use Rattle.gnss_obs.proofs.cells.Cells.is_in_table_order.Goals as goal

pub returns : goal.returns
returns c = λ e.
    let low : c.self.inside.least_next < unsorted = grind (arith, e) in
    (c.self.inside.least_next, subst (λ cells. RiseTo c.self.inside.least_next (map slot cells)) c.self.view_is (c.self.invariant.4 low))
