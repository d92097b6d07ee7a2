use Rattle.obs_epoch.proofs.Names.{◌∙◌, sym, arith, systems}
use Rattle.obs_epoch.proofs.MarksLemmas.{none_carried}
use Rattle.obs_epoch.proofs.marks.carry.Goals as goal

pub returns-else-has_loss-clause-marks : goal.returns-else-has_loss-clause-marks
returns-else-has_loss-clause-marks c =
    grind (arith, c.if-not-has_interval.false, c.if-on_grid-2.false, c.if-has_loss.false, sym (none_carried c.args.marks.now c.args.epoch.now.epoch systems (sym c.requires ∙ c.if-has_loss.false)))
