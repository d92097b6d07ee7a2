use Rattle.rtcm_msg.proofs.Names.{arith, common_steps, ap, FormedMsm}
use Rattle.rtcm_msg.proofs.FormLaws.{satellite_in_range, satellite_same}
use Rattle.rtcm_msg.proofs.ViewLaws.{row_value, below, fits, satellites_counted}
use Rattle.rtcm_msg.proofs.view.MsmView.satellite.Goals as goal

pub satellite_in-requires-clause-there : goal.satellite_in-requires-clause-there
satellite_in-requires-clause-there c = below c.args.i c.self.inside.satellites _ _ (satellites_counted c.self.inside.form c.self.inside.satellites c.self.inside.cells c.self.inside.rows c.self.invariant.1) (ap (λ (v : FormedMsm). v.msm.satellites) c.self.view_is) c.requires.there

pub returns-in-Bits : goal.returns-in-Bits
returns-in-Bits c = grind (arith, common_steps, below, satellites_counted, fits, row_value, satellite_in_range, satellite_same)

pub returns-in-Packed : goal.returns-in-Packed
returns-in-Packed c = grind (arith, common_steps, fits, satellite_in_range, satellite_same)
