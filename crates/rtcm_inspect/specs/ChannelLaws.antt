-- The channels that `options` prints are read back.
use Rattle.std.specs.Prelude.{◌≡◌, ◌≤◌, ◌==◌, ◌&&◌, ℕ, List, find, flat_map, nat_le, Option, Some, option_map}
use Rattle.gnss_obs.specs.Channels.{AreChannels, ChannelsValue, most_number, number_at, slot_count}
use Rattle.rtcm_scan.specs.Frames.{Framed}
use Rattle.line_texts.specs.ChannelTexts.{channels_of, channels_text}
use Rattle.rtcm_inspect.specs.StreamChannels.{channels_in, sent_in}

-- the text of channels is read as these channels
abbrev pub AreChannelsRead : Type 0
AreChannelsRead =
    (channels : ChannelsValue) → AreChannels channels → channels_of (channels_text channels) ≡ Some channels

-- those of a stream are channels
abbrev pub HasChannels : Type 0
HasChannels = (wanted : Option ℕ) (fs : List Framed) → AreChannels (channels_in wanted fs)

-- of these numbers for slots the first one for a slot that is the number of a channel
abbrev pub first_valid : ℕ → List (ℕ × ℕ) → Option ℕ
first_valid slot sent = option_map (λ p. p.1) (find (λ p. (p.0 == slot) && nat_le p.1 most_number) sent)

-- that of a slot is the first valid one that the frames have for it
abbrev pub AreFirstChannels : Type 0
AreFirstChannels = (wanted : Option ℕ) (fs : List Framed) (slot : ℕ) → 1 ≤ slot → slot ≤ slot_count
    → number_at (channels_in wanted fs) slot ≡ first_valid slot (flat_map (sent_in wanted) fs)
