use Rattle.std.proofs.Common.{rules}
use Rattle.rtcm_convert.proofs.ReadableLemmas.{file_readable, file_valued, Known, so_far_readable}
use Rattle.rtcm_convert.proofs.laws.readable.Goals as goal

pub returns : goal.returns
returns c =
    let k : Known = record { value = c.message_sets.ensures.value; heard = c.gathered.ensures.heard; epochs = c.gathered.ensures.epochs; first = c.closed_stay.ensures.first; gathered = c.values.ensures; text = c.text.ensures } in
    record { file = file_readable k; some = file_valued k; so_far = so_far_readable k; zero = search rules }
