-- The message of a view, and its cells.
use Rattle.std.specs.Prelude.{◌≡◌, ℕ, ◌<◌, List, length, slice_index}
use Rattle.rtcm_msg.specs.declared.message.Message.{Message}
use Rattle.rtcm_msg.specs.declared.message.Message.TheVariants as messages
use Rattle.rtcm_msg.specs.declared.view.View.{View}
use Rattle.rtcm_msg.specs.declared.view.View.TheVariants as views
use Rattle.rtcm_msg.specs.declared.view.Form.{Form}
use Rattle.rtcm_msg.specs.declared.entry.Entry.{Entry}
use Rattle.rtcm_msg.specs.declared.data.Satellite.{Satellite}
use Rattle.rtcm_msg.specs.Forms.{satellite_data}

abbrev pub viewed_message : View → Message
viewed_message (views.Station s) = messages.Station s
viewed_message (views.Msm m) = messages.Msm m
viewed_message (views.Other number set) = messages.Other number set

-- The cached data are those of the satellite at an index, if there is one.
abbrev pub IsCached : Form → List ℕ → ℕ → Satellite → Type 0
IsCached form satellites i cached = i < length satellites → cached ≡ satellite_data form (slice_index satellites i)

-- An iteration over the cells of a message of this form: the data of the cells that are left.
pub record Unread : Type 0 where
  pub form : Form
  pub left : List Entry
