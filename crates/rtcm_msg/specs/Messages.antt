-- The three kinds of messages.
use Rattle.std.specs.Prelude.{ℕ, Bool, Option}
use Rattle.rtcm_msg.specs.declared.message.Message.{Message}
use Rattle.rtcm_msg.specs.declared.message.Message.TheVariants as messages
use Rattle.rtcm_msg.specs.declared.station.StationParts.{StationParts}
use Rattle.rtcm_msg.specs.declared.view.Form.{Form}
use Rattle.rtcm_msg.specs.Msm.{MsmValue}

-- What is said of a message, by what is said of a station message, of an MSM of a form, and of any other message.
abbrev pub by_message : {A : Type 0} → (StationParts → A) → (Form → MsmValue → A) → (ℕ → Option (ℕ × Bool) → A) → Message → A
by_message station msm other (messages.Station s) = station s
by_message station msm other (messages.Msm m) = msm m.form m.msm
by_message station msm other (messages.Other n set) = other n set
