use Rattle.rtcm_inspect.proofs.ReadBackLemmas.{are_encoded, reads_back}
use Rattle.rtcm_inspect.proofs.laws.read_back.Goals as goal

pub returns : goal.returns
returns c = record { encoded = are_encoded; back = reads_back c.frames.ensures.are c.joined.ensures }
