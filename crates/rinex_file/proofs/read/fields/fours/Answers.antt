use Rattle.rinex_file.proofs.Fields.Lanes.{fours_of_bytes}
use Rattle.rinex_file.proofs.read.fields.fours.Goals as goal

pub returns : goal.returns
returns c = fours_of_bytes c.args.twos c.fits-twos.0 c.requires
