use Rattle.rtcm_scan.proofs.MomentLemmas.{counts_new, drained_new}
use Rattle.rtcm_scan.proofs.Names.{wrapped}
use Rattle.rtcm_scan.proofs.framer.Framer.new.Goals as goal

pub returns-clause-history : goal.returns-clause-history
returns-clause-history c = counts_new c.args.limit c.new-2.result.count c.in_ok-window.window c.if-limit-gt-MOST_BYTES.false (wrapped _ _ c.new.result _ _ c.new.ensures c.map_err.ensures.cases c.in_ok-window.was) c.new-2.ensures.taken.count

pub returns-clause-drained : goal.returns-clause-drained
returns-clause-drained c = drained_new c.args.limit c.new-2.result.count c.in_ok-window.window (wrapped _ _ c.new.result _ _ c.new.ensures c.map_err.ensures.cases c.in_ok-window.was)
