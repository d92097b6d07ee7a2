-- GLONASS channels as text: slots and their channels, as `1:1,2:-4`. Channels are kept as numbers: the channel plus 7.
use Rattle.std.specs.Prelude.{ℕ, ◌+◌, ◌-◌, ◌==◌, ◌&&◌, nat_le, nat_lt, List, [], ◌∷◌, ◌++◌, get_or, decimal}
use Rattle.std.specs.Prelude.{Option, Some, None, is_some, option_map, option_and_then, if◌then◌else◌}
use Rattle.std.specs.List.{join_with_byte}
use Rattle.gnss_obs.specs.Channels.{ChannelsValue, no_channels, number_at, slot_count, with_number}
use Rattle.gnss_obs.specs.Plans.{between_commas}
use Rattle.line_texts.specs.Lengths.{after_byte, cut, number_of}

-- ---- reading

abbrev pub within : (least most : ℕ) → Option ℕ → Option ℕ
within least most o = option_and_then (λ n. if nat_le least n && nat_le n most then Some n else None) o

-- a slot, without a leading zero (0x30)
abbrev pub slot_of : List ℕ → Option ℕ
slot_of text = if get_or text 0 0 == 0x30 then None else within 1 slot_count (number_of 2 text)

-- the number of a channel from -7 to 6, which is a digit, after a minus sign (0x2D) if it is negative
abbrev pub channel_by : List ℕ → Option (List ℕ) → Option ℕ
channel_by text None = option_map (λ n. 7 + n) (within 0 6 (number_of 1 text))
channel_by text (Some size) = option_map (λ n. 7 - n) (within 1 7 (number_of 1 size))

abbrev pub channel_of : List ℕ → Option ℕ
channel_of text = channel_by text (after_byte 0x2D text)

-- a slot and the number of its channel, separated by a colon (0x3A)
abbrev pub slot_channel_of : List ℕ → Option (ℕ × ℕ)
slot_channel_of text =
    option_and_then (λ p. option_and_then (λ slot. option_map (λ n. (slot, n)) (channel_of p.1)) (slot_of p.0))
    (cut 0x3A text)

-- one more slot, which may not have a channel
abbrev pub with_slot : ChannelsValue → ℕ × ℕ → Option ChannelsValue
with_slot known p = if is_some (number_at known p.0) then None else Some (with_number known p.0 p.1)

abbrev pub with_entry : ChannelsValue → List ℕ → Option ChannelsValue
with_entry known text = option_and_then (with_slot known) (slot_channel_of text)

-- the channels of these texts, and those known before
abbrev pub channels_after : ChannelsValue → List (List ℕ) → Option ChannelsValue
channels_after known [] = Some known
channels_after known (text ∷ texts) =
    option_and_then (λ channels. channels_after channels texts) (with_entry known text)

-- the channels of slots in any order, separated by commas; an empty text has none
abbrev pub channels_of : List ℕ → Option ChannelsValue
channels_of [] = Some no_channels
channels_of (b ∷ bs) = channels_after no_channels (between_commas (b ∷ bs))

-- ---- printing

abbrev pub channel_text : ℕ → List ℕ
channel_text n = if nat_lt n 7 then 0x2D ∷ decimal (7 - n) else decimal (n - 7)

abbrev pub slot_text : ℕ → ℕ → List ℕ
slot_text slot n = decimal slot ++ 0x3A ∷ channel_text n

-- the texts of the slots from one on that have a channel
abbrev pub slot_texts : ℕ → ChannelsValue → List (List ℕ)
slot_texts slot [] = []
slot_texts slot (None ∷ ns) = slot_texts (slot + 1) ns
slot_texts slot (Some n ∷ ns) = slot_text slot n ∷ slot_texts (slot + 1) ns

-- a text after another one and a comma, or alone
abbrev pub after_comma : List ℕ → List ℕ → List ℕ
after_comma [] text = text
after_comma (b ∷ bs) text = b ∷ bs ++ 0x2C ∷ text

abbrev pub channels_text : ChannelsValue → List ℕ
channels_text channels = join_with_byte 0x2C (slot_texts 1 channels)
