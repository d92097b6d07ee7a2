use Rattle.gnss_obs.proofs.Names.{◌≡◌, take, IsOf}
use Rattle.gnss_obs.proofs.plan.add_signals.Given as goal

-- The signals so far fit.
abbrev pub invariant-loop-signal : goal.invariant-loop-signal
invariant-loop-signal l = (l.added ≡ take l.signal-index l.signals) × IsOf l.system (take l.signal-index l.signals)
