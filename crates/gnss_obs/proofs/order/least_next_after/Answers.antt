use Rattle.std.proofs.Common.{arith}
use Rattle.gnss_obs.proofs.SortLemmas.{rise_push}
use Rattle.gnss_obs.proofs.order.least_next_after.Goals as goal

pub returns-else-number-least : goal.returns-else-number-least
returns-else-number-least c = λ ns h low. rise_push c.args.least c.args.number ns (omega arith) (h (omega arith))
