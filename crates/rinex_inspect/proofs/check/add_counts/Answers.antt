use Rattle.rinex_inspect.proofs.MissingLemmas.{counts_are}
use Rattle.rinex_inspect.proofs.check.add_counts.Goals as goal

pub returns-clause-text : goal.returns-clause-text
returns-clause-text c = λ v are.
    counts_are v c.args.text.now are c.put.ensures c.add_number.ensures.text c.add_count.ensures.text c.add_count-2.ensures.text c.finish.ensures
