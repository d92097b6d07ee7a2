use Rattle.rtcm_msg.proofs.Names.{◌∙◌, sym, count_ones}
use Rattle.rtcm_msg.proofs.ValueLaws.{first_below}
use Rattle.rtcm_msg.proofs.view.MsmView.count_row.Goals as goal

pub satellite-whole-requires-clause-there : goal.satellite-whole-requires-clause-there
satellite-whole-requires-clause-there g c =
    first_below (count_ones c.args.self.now.msm.sets.satellites) _ c.args.cells.pairs c.requires.first c.requires.cells.left.2 c.requires.cells.left.3 (sym c.satellites.ensures.set ∙ c.satellites.ensures.count)
