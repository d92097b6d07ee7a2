use Rattle.rtcm_bits.proofs.Names.{◌+◌, ◌-◌, arith}
use Rattle.rtcm_bits.proofs.WordLaws.{word_of_range}
use Rattle.rtcm_bits.proofs.reader.word_at.Goals as goal

pub returns : goal.returns
returns c = word_of_range c.args.bytes.now c.args.first (c.args.first + 8 - c.args.first) c.from_be_bytes.result (omega arith) c.requires (λ i. (c.type_inv.bytes i).fits) c.from_be_bytes.ensures
