-- The frequency channels of GLONASS satellites in messages: slots, each with the number of its channel, which is 7 more
-- than the channel.
use Rattle.std.specs.Prelude.{ℕ, ◌==◌, ◌&&◌, nat_le, if◌then◌else◌, Bool, List, [], map, length, Option, Some, None}
use Rattle.std.specs.List.{zip}
use Rattle.gnss_system.specs.declared.system.System.TheVariants.{Glonass}
use Rattle.gnss_system.specs.Systems.{is_system}
use Rattle.rtcm_bits.specs.Bits.{bits_of}
use Rattle.rtcm_msg.specs.declared.message.Message.{Message}
use Rattle.rtcm_msg.specs.Messages.{by_message}
use Rattle.rtcm_msg.specs.declared.view.Form.{Form}
use Rattle.rtcm_msg.specs.Fields.{field_at}
use Rattle.rtcm_msg.specs.Forms.{has_rates, satellite_data}
use Rattle.rtcm_msg.specs.Msm.{MsmValue, satellite_mask_bits}
use Rattle.rtcm_msg.specs.Entries.{ids}

-- These slots with the extended satellite information, DF419, in the data of each.
abbrev pub channels_by : Form → List ℕ → List ℕ → List (ℕ × ℕ)
channels_by form slots satellites = map (λ x. (x.0, (satellite_data form x.1).extended)) (zip slots satellites)

-- A message of GLONASS has this information of each of its satellites, whose slots are their IDs.
abbrev pub has_channels : Form → MsmValue → Bool
has_channels form m = has_rates form && is_system m.system Glonass

abbrev pub channels_of : Form → MsmValue → List (ℕ × ℕ)
channels_of form m =
    if has_channels form m
    then channels_by form (ids satellite_mask_bits m.sets.satellites) m.satellites else []

abbrev pub sent_channels : Message → List (ℕ × ℕ)
sent_channels v = by_message (λ s. []) channels_of (λ n set. []) v

-- The slot, DF038, and the number, DF040, of a message 1020 that contains them.
abbrev pub channel_of_1020 : List ℕ → Option (ℕ × ℕ)
channel_of_1020 bytes =
    let bits = bits_of bytes in
    if nat_le 23 (length bits) && (field_at bits 0 12 == 1020)
    then Some (field_at bits 12 6, field_at bits 18 5) else None
