use Rattle.rtcm_msg.proofs.MessageLaws.{zero_read, read_again}
use Rattle.rtcm_msg.proofs.LengthLaws.{message_short}
use Rattle.rtcm_msg.proofs.laws.read_back.Goals as goal

pub returns-clause-read : goal.returns-clause-read
returns-clause-read c = λ v bytes value known is. rw is (read_again _ v (zero_read v value known))

pub returns-clause-short : goal.returns-clause-short
returns-clause-short c = λ v value. message_short v value
