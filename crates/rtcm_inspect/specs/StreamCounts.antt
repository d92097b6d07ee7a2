-- The numbers of a stream without signals: of an empty one, of another format and of one without MSMs they differ.
use Rattle.std.specs.Prelude.{ℕ, Bool, false, true, List, filter, length, Result, Ok, Err}
use Rattle.rtcm_msg.specs.Decoding.{message_at}
use Rattle.rtcm_msg.specs.Messages.{by_message}
use Rattle.rtcm_msg.specs.declared.fault.MsgFault.{MsgFault}
use Rattle.rtcm_msg.specs.declared.message.Message.{Message}
use Rattle.rtcm_scan.specs.Frames.{Framed, frames_of}
use Rattle.rtcm_inspect.specs.declared.fault.StreamCounts.{StreamCounts}

-- an MSM4 to MSM7 that isn't refused, of any system and station
abbrev pub is_msm : Result Message MsgFault → Bool
is_msm (Ok m) = by_message (λ s. false) (λ form msm. true) (λ n set. false) m
is_msm (Err e) = false

-- the frames that have one
abbrev pub msm_in : List Framed → List Framed
msm_in fs = filter (λ f. is_msm (message_at f.message)) fs

-- the bytes of a stream, its frames, and its decoded MSMs
abbrev pub stream_counts : List ℕ → StreamCounts
stream_counts b = record { bytes = length b; frames = length (frames_of b); msm = length (msm_in (frames_of b)) }
