use Rattle.rtcm_bits.proofs.Names.{rules}
use Rattle.rtcm_bits.proofs.WindowLaws.{range_past}
use Rattle.rtcm_bits.proofs.looking.part_of.Goals as goal

pub returns-clause-bytes : goal.returns-clause-bytes
returns-clause-bytes c = range_past c.args.front.now c.args.back.now c.args.start c.args.n c.min-from.result c.min-from.ensures (search rules)
