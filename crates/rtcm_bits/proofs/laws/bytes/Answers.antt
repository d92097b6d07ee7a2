use Rattle.rtcm_bits.proofs.Names.{length-bits_of, bits_of-append}
use Rattle.rtcm_bits.proofs.laws.bytes.Goals as goal

pub returns-clause-length : goal.returns-clause-length
returns-clause-length c = length-bits_of

pub returns-clause-joined : goal.returns-clause-joined
returns-clause-joined c = bits_of-append
