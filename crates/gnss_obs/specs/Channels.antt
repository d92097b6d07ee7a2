-- The frequency channels of GLONASS satellites, and the carriers of a satellite's signals.
use Rattle.std.specs.Prelude.{◌≡◌, ℕ, ◌+◌, ◌-◌, ◌*◌, ◌<◌, ◌≤◌, ◌==◌, List, All, length, get_or, replicate, set, IfSome}
use Rattle.std.specs.Prelude.{Option, Some, None, option_map, if◌then◌else◌}
use Rattle.gnss_system.specs.declared.system.System.{System}
use Rattle.gnss_system.specs.declared.system.System.TheVariants.{Glonass}
use Rattle.gnss_system.specs.Satellites.{Satellite, satellites}
use Rattle.gnss_system.specs.Signals.{SignalAt, band_of, carrier_of, carriers, code_of, hertz_of, most_hertz}

-- The number of the channel of each slot from 1 on, if it is known: the channel plus 7 (DF040, DF419).
abbrev pub ChannelsValue : Type 0
ChannelsValue = List (Option ℕ)

-- The number of slots: one for each satellite.
abbrev pub slot_count : ℕ
slot_count = satellites Glonass

-- The largest number of a channel, that of channel 6.
abbrev pub most_number : ℕ
most_number = 13

-- No channel is known.
abbrev pub no_channels : ChannelsValue
no_channels = replicate slot_count None

-- Numbers of channels, one or none for each slot.
pub record AreChannels (channels : ChannelsValue) : Type 0 where
  pub slots : length channels ≡ slot_count
  pub each : All (λ number. IfSome number (λ n. n ≤ most_number)) channels

-- The number of the channel of a slot, if it is known.
abbrev pub number_at : ChannelsValue → ℕ → Option ℕ
number_at channels slot = get_or channels (slot - 1) None

abbrev pub with_number : ChannelsValue → ℕ → ℕ → ChannelsValue
with_number channels slot number = set channels (slot - 1) (Some number)

-- The carrier in hertz at a number of steps from channel -7 of a band of GLONASS, of which channel 0 is in the table.
abbrev pub carrier_at : (band step number : ℕ) → ℕ
carrier_at band step number = carrier_of (carriers Glonass) band + step * number - step * 7

-- The carrier of a band of GLONASS at the channel of a number, in hertz: 562.5 kHz or 437.5 kHz from one to the next.
abbrev pub channel_hertz : ℕ → ℕ → ℕ
channel_hertz band number = if band == 1 then carrier_at 1 562_500 number else carrier_at 2 437_500 number

-- A carrier frequency in hertz.
abbrev pub IsCarrier : ℕ → Type 0
IsCarrier hertz = (0 < hertz) × (hertz ≤ most_hertz)

-- The carrier of a signal of a satellite in hertz, if it is known: that of GLONASS depends on the satellite's channel.
abbrev pub hertz_by : System → Option ℕ → SignalAt → Option ℕ
hertz_by Glonass number signal = option_map (channel_hertz (band_of (code_of signal))) number
hertz_by _ number signal = Some (hertz_of signal)

abbrev pub hertz_in : ChannelsValue → Satellite → SignalAt → Option ℕ
hertz_in channels satellite signal = hertz_by satellite.system (number_at channels satellite.id) signal
