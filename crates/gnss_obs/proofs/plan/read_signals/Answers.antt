use Rattle.gnss_obs.proofs.PlanLaws.{when_codes, when_none}
use Rattle.gnss_obs.proofs.plan.read_signals.Goals as goal

pub returns-in-none : goal.returns-in-none
returns-in-none c = when_none c.args.system c.args.text.now c.args.signals.now c.in-none.is c.requires

pub returns-in_default : goal.returns-in_default
returns-in_default c = when_codes c.args.system c.args.text.now c.read_codes.new.signals c.read_codes.result c.in_default.not-all c.in_default.not-none c.read_codes.ensures
