use Rattle.gnss_obs.proofs.Names.{ltb-false, ◌≡◌, ◌∙◌, false, nat_lt, sym, arith, cells_of, written_among, satellites_in, below_next, below_all, sum_none, sum_some, common_steps}
use Rattle.gnss_obs.proofs.GroupLaws.{some_counted}
use Rattle.gnss_obs.proofs.epoch.Epoch.has_satellites.Goals as goal

pub returns-then-has_value : goal.returns-then-has_value
returns-then-has_value c =
    sym (sum_some (λ s. written_among (cells_of s c.args.self.now.epoch) (satellites_in s)) c.at.result
    (sym (some_counted c.at.result c.cells.result.now _ c.cells.ensures.cells c.cells.ensures.held c.cells.ensures.order) ∙ sym c.has_value.ensures ∙ c.if-has_value.true))

pub loop-i-preserved : goal.loop-i-preserved
loop-i-preserved c = grind (arith, common_steps, below_next, some_counted)

pub returns : goal.returns
returns c =
    sym (sum_none (λ s. written_among (cells_of s c.args.self.now.epoch) (satellites_in s)) (λ s.
    let none = ltb-false 0 _ (below_all (λ s. nat_lt 0 (written_among (cells_of s c.args.self.now.epoch) (satellites_in s)) ≡ false) c.loop-i.i (omega (arith, c.loop-i-test.false)) c.loop-i.invariant s) in
    omega (arith, none)))
