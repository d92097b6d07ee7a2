use Rattle.gnss_obs.proofs.Names.{err_from_is_err_and, arith, common_steps}
use Rattle.gnss_obs.proofs.PlanLaws.{none_of}
use Rattle.gnss_obs.proofs.FitLemmas.{unfit_at}
use Rattle.gnss_obs.proofs.plan.add_signals.Goals as goal

pub loop-signal-init : goal.loop-signal-init
loop-signal-init c = (c.requires, none_of c.args.system)

pub returns-in_err-add_signal : goal.returns-in_err-add_signal
returns-in_err-add_signal c = grind (arith, common_steps, err_from_is_err_and, unfit_at)
