use Rattle.gnss_obs.proofs.Names.{◌<◌, length, subst, sym, planned_of}
use Rattle.gnss_obs.proofs.SortLemmas.{few_sorted, slots_sorted}
use Rattle.gnss_obs.proofs.epoch_cells.is_sorted.Goals as goal

pub returns-then-is_short : goal.returns-then-is_short
returns-then-is_short c = λ _. sym (few_sorted (planned_of c.args.system c.args.plan.now) c.args.cells.now (subst (λ l. length l < 2) c.as_slice.ensures.cells c.if-is_short.true))

pub returns-then-is_in_table_order : goal.returns-then-is_in_table_order
returns-then-is_in_table_order c = λ e.
    sym (slots_sorted c.args.system (planned_of c.args.system c.args.plan.now) c.args.cells.now c.requires.kept.held c.requires.planned
    (c.is_in_table_order-then-is_in_table_order.ensures e) (c.is_in_table_order.ensures c.if-is_in_table_order.true))
