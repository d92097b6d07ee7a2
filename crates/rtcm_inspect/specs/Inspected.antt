-- Messages as they are inspected: each GLONASS satellite has a channel, so that its phase ranges and rates count
-- without one. The leap seconds matter only to times of week.
use Rattle.std.specs.Prelude.{ℕ, List, Option, Result}
use Rattle.rtcm_msg.specs.declared.fault.MsgFault.{MsgFault}
use Rattle.rtcm_msg.specs.declared.message.Message.{Message}
use Rattle.rtcm_msg.specs.declared.number.MsmSet.{MsmSet}
use Rattle.obs_epoch.specs.Heard.{Heard, heard, heard_at, heard_in, heard_of}
use Rattle.obs_epoch.specs.SignalCounts.{every_channel}

abbrev pub inspected : Message → Heard
inspected m = heard every_channel 0 m

-- none if it was refused
abbrev pub inspected_of : Result Message MsgFault → Option Heard
inspected_of r = heard_of every_channel 0 r

-- the message in these bytes, and if only the MSMs of a set are decoded
abbrev pub inspected_at : List ℕ → Option Heard
inspected_at bytes = heard_at every_channel 0 bytes

abbrev pub inspected_in : (leap : ℕ) → MsmSet → List ℕ → Option Heard
inspected_in leap set bytes = heard_in every_channel leap set bytes
