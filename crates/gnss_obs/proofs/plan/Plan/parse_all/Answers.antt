use Rattle.gnss_obs.proofs.MadeLemmas.{plan_read}
use Rattle.gnss_obs.proofs.plan.Plan.parse_all.Goals as goal

pub returns : goal.returns
returns c = plan_read c.read_all-read.result _ c.read_all-read.new.lists c.with.result c.read_all-read.ensures c.with.ensures
