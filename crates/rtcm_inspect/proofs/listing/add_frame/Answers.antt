use Rattle.rtcm_inspect.proofs.Names.{append_assoc, frame_line}
use Rattle.rtcm_inspect.proofs.listing.add_frame.Goals as goal

pub returns : goal.returns
unfolding frame_line
returns c = simp (c.finish.ensures, c.add_message_number.ensures.text, c.as_slice.ensures.value, c.add_number.ensures.text, c.len.ensures.value, c.put_number.ensures.text, append_assoc)
