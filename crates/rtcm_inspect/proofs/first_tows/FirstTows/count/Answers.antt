use Rattle.rtcm_inspect.proofs.Names.{rules}
use Rattle.rtcm_inspect.proofs.TowLemmas.{counted_still}
use Rattle.rtcm_inspect.proofs.first_tows.FirstTows.count.Goals as goal

pub returns-else-self : goal.returns-else-self
returns-else-self c = counted_still c.args.self.now c.args.tow c.greatest_with-time.result c.greatest_with-time.ensures (search rules) c.if-self.false
