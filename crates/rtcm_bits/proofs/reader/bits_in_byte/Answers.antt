use Rattle.rtcm_bits.proofs.PartLemmas.{part_of_byte}
use Rattle.rtcm_bits.proofs.reader.bits_in_byte.Goals as goal

pub returns : goal.returns
returns c = part_of_byte c.args.byte c.args.skip c.args.n c.requires
