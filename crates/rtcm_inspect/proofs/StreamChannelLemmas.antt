-- The channels of one more frame.
use Rattle.rtcm_inspect.proofs.Names.{length-set, All-replicate, All-set, fold-append, Glonass, system_same, message_by, number_of, kind_of, message_there, common_steps, AreChannels, Bool, ChannelsValue, Err, Framed, IfSome, List, Message, MsgFault, None, Ok, Option, Other, Result, System, [], arith, channel_of_1020, channels_in, false, flat_map, flat_map-append, is_some, is_system, length, message_at, most_number, nat_le, no_channels, refl, sent_by, sent_in, slot_count, true, with_first, with_sent, ℕ, ◌++◌, ◌==◌, ◌∷◌, ◌≡◌, ◌≤◌, option_to_list, ap}

-- ---- only a message 1020 has the channel of one

abbrev pub is_numbered_1020 : Message → Bool
is_numbered_1020 (Other n set) = n == 1020
is_numbered_1020 other = false

abbrev pub is_1020 : Result Message MsgFault → Bool
is_1020 (Ok m) = is_numbered_1020 m
is_1020 (Err e) = false

read_1020 : (bits : List Bool) → nat_le 23 (length bits) ≡ true → (number_of bits == 1020) ≡ true → is_1020 (message_by kind_of bits) ≡ true
read_1020 bits long is = grind (arith, common_steps, message_there)

pub no_1020 : (bytes : List ℕ) (r : Result Message MsgFault) → message_at bytes ≡ r → is_1020 r ≡ false → channel_of_1020 bytes ≡ None
no_1020 bytes r is other = grind (arith, read_1020)

-- ---- the channels of a message

pub another_system : (s : System) → (s ≡ Glonass → ⊥) → is_system s Glonass ≡ false
another_system s other = grind (arith, system_same)

-- those of a frame with another message
pub sent_without_1020 : (wanted : Option ℕ) (f : Framed) (r : Result Message MsgFault) → message_at f.message ≡ r → is_1020 r ≡ false → option_to_list (channel_of_1020 f.message) ++ sent_by wanted r ≡ sent_by wanted r
sent_without_1020 wanted f r is other = ap (λ (o : Option (ℕ × ℕ)). option_to_list o ++ sent_by wanted r) (no_1020 f.message r is other)

-- ---- one more frame

pub channels_more : {x y : ChannelsValue} (wanted : Option ℕ) (fs : List Framed) (f : Framed) → y ≡ with_sent x (sent_in wanted f) → x ≡ channels_in wanted fs → y ≡ channels_in wanted (fs ++ f ∷ [])
channels_more wanted fs f now before = grind (arith, flat_map-append, fold-append)

-- ---- the numbers are those of channels

first_channels : (known : ChannelsValue) (p : ℕ × ℕ) → AreChannels known → AreChannels (with_first known p)
first_channels known p are = grind (arith, common_steps, is_some, length-set, All-set)

sent_channels_are : (sent : List (ℕ × ℕ)) (known : ChannelsValue) → AreChannels known → AreChannels (with_sent known sent)
sent_channels_are [] known are = are
sent_channels_are (p ∷ ps) known are = sent_channels_are ps (with_first known p) (first_channels known p are)

none_are : AreChannels no_channels
none_are = record { slots = refl; each = All-replicate (λ number. IfSome number (λ n. n ≤ most_number)) slot_count None tt }

pub stream_channels : (wanted : Option ℕ) (fs : List Framed) → AreChannels (channels_in wanted fs)
stream_channels wanted fs = sent_channels_are (flat_map (sent_in wanted) fs) no_channels none_are
