use Rattle.std.proofs.Common.{rules}
use Rattle.gnss_obs.proofs.CivilLemmas.{is_at, is_taken, some_of, none_of}
use Rattle.gnss_obs.proofs.civil.at_of.Goals as goal

pub returns-clause-some : goal.returns-clause-some
returns-clause-some c = some_of c.new.result c.ok.ensures.value c.new.ensures.value (λ at is. is_at c.args.civil.now at (search rules) is.0 is.1)

pub returns-clause-none : goal.returns-clause-none
returns-clause-none c = none_of c.ok.result c.new.result c.ok.ensures.value (λ valid. c.new.ensures.succeeds.1 (is_taken c.args.civil.now (search rules) valid))
