use Rattle.rinex_file.proofs.Reading.Accepted.{header_expected}
use Rattle.rinex_file.proofs.Reading.Lines.{none_ahead, start}
use Rattle.rinex_file.proofs.Names.{arith}
use Rattle.rinex_file.proofs.read.epochs.EpochReader.new.Goals as goal

pub returns : goal.returns
returns c = λ input. (grind (arith, none_ahead, start), header_expected _ c.new.ensures.header)
