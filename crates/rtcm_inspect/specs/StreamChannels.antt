-- The channels of GLONASS satellites that a stream has, as their numbers.
use Rattle.std.specs.Prelude.{ℕ, ◌&&◌, nat_le, not, List, [], ◌++◌, flat_map, fold, is_some, if◌then◌else◌}
use Rattle.std.specs.Prelude.{Option, option_to_list, Result, Ok, Err}
use Rattle.gnss_obs.specs.Channels.{ChannelsValue, most_number, no_channels, number_at, slot_count, with_number}
use Rattle.rtcm_msg.specs.Channels.{channel_of_1020, sent_channels}
use Rattle.rtcm_msg.specs.Decoding.{message_at}
use Rattle.rtcm_msg.specs.declared.fault.MsgFault.{MsgFault}
use Rattle.rtcm_msg.specs.declared.message.Message.{Message}
use Rattle.rtcm_scan.specs.Frames.{Framed}
use Rattle.obs_epoch.specs.SignalCounts.{is_of_station}
use Rattle.rtcm_inspect.specs.Inspected.{inspected}

-- a number for a slot, which is kept if it is that of a channel, and the first one of a slot from 1 to 27
abbrev pub with_first : ChannelsValue → ℕ × ℕ → ChannelsValue
with_first known p =
    if nat_le 1 p.0 && nat_le p.0 slot_count && nat_le p.1 most_number && not (is_some (number_at known p.0))
    then with_number known p.0 p.1
    else known

-- those of an MSM5 or MSM7 (DF419) of the wanted station; if none is given, of any
abbrev pub sent_of : Option ℕ → Message → List (ℕ × ℕ)
sent_of wanted m = if is_of_station wanted (inspected m) then sent_channels m else []

abbrev pub sent_by : Option ℕ → Result Message MsgFault → List (ℕ × ℕ)
sent_by wanted (Ok m) = sent_of wanted m
sent_by wanted (Err e) = []

-- that of a 1020 (DF038, DF040), which has no station, and those of an MSM
abbrev pub sent_in : Option ℕ → Framed → List (ℕ × ℕ)
sent_in wanted f = option_to_list (channel_of_1020 f.message) ++ sent_by wanted (message_at f.message)

-- the channels after those known before
abbrev pub with_sent : ChannelsValue → List (ℕ × ℕ) → ChannelsValue
with_sent known sent = fold with_first known sent

-- the channels of these frames
abbrev pub channels_in : Option ℕ → List Framed → ChannelsValue
channels_in wanted fs = with_sent no_channels (flat_map (sent_in wanted) fs)
