use Rattle.rtcm_bits.proofs.Names.{[]}
use Rattle.rtcm_bits.proofs.RegisterLemmas.{check_nil, check_append}
use Rattle.rtcm_bits.proofs.crc.crc24q.Goals as goal

pub returns-clause-value : goal.returns-clause-value
returns-clause-value c = check_append [] c.args.bytes.now 0 c.after_all.result check_nil c.after_all.ensures
