use Rattle.rinex_file.proofs.Fields.Lanes.{pairs_are}
use Rattle.rinex_file.proofs.read.fields.twos.Goals as goal

pub returns : goal.returns
returns c = pairs_are 8 c.args.digits c.fits-digits.0 c.requires
