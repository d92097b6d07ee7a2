use Rattle.rinex_inspect.proofs.Names.{arith, sym, no_tally}
use Rattle.rinex_inspect.proofs.TallyLemmas.{added_none, added_step}
use Rattle.rinex_inspect.proofs.table.add_values.Goals as goal

pub loop-k-init : goal.loop-k-init
loop-k-init c = sym (added_none c.args.tallies.now)

pub loop-k-preserved : goal.loop-k-preserved
loop-k-preserved c = added_step c.args.tallies.now c.args.values.now c.loop-k.k no_tally c.index-values-k.result c.loop-k.invariant c.with_values.ensures c.index-values-k.is c.loop-k-test.true (omega (arith, c.loop-k-test.true, c.requires))
