use Rattle.gnss_obs.proofs.Names.{◌≡◌, ◌≤◌, ◌∙◌, arith, length, subst, sym, satellites_in}
use Rattle.gnss_obs.proofs.GroupLaws.{all_counted, counted_after, counted_all}
use Rattle.gnss_obs.proofs.epoch.written.Goals as goal

count_is : (c : goal.After-loop-i) → c.loop-i.count ≡ counted_after 0 c.args.cells.now
count_is c = let end : length c.args.cells.now ≤ c.loop-i.i = omega (arith, c.loop-i-test.false) in all_counted c.loop-i.count c.loop-i.last c.loop-i.i c.args.cells.now end c.loop-i.invariant.0

pub returns-clause-count : goal.returns-clause-count
returns-clause-count c = count_is c ∙ (counted_all c.args.system c.args.cells.now c.requires.held c.requires.order).0

pub returns-clause-bound : goal.returns-clause-bound
returns-clause-bound c = subst (λ n. n ≤ satellites_in c.args.system) (sym (count_is c)) (counted_all c.args.system c.args.cells.now c.requires.held c.requires.order).1
