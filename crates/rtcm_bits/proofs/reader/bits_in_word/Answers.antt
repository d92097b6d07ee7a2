use Rattle.rtcm_bits.proofs.WordLaws.{part_of_a_word}
use Rattle.rtcm_bits.proofs.reader.bits_in_word.Goals as goal

pub returns : goal.returns
returns c = part_of_a_word c.args.word c.args.skip c.args.width c.requires.within
