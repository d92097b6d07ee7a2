-- The week, the leap seconds, the channels, the station and its values that `options` prints are read back.
use Rattle.std.specs.Prelude.{◌≡◌, ◌↔◌, ◌<◌, ◌^◌, ℕ, List, Option, Some, None, Ok, codes, decimal}
use Rattle.clap.specs.Walk.{Row, first_of, one_of}
use Rattle.rtcm_msg.specs.Station.{InRange}
use Rattle.rtcm_msg.specs.declared.station.StationParts.{StationParts}
use Rattle.gnss_obs.specs.Channels.{AreChannels, ChannelsValue}
use Rattle.gnss_obs.specs.Values.{no_values}
use Rattle.gnss_obs.specs.Weeks.{weeks}
use Rattle.obs_epoch.specs.Epochs.{values_from}
use Rattle.obs_epoch.specs.declared.week.Start.{Start}
use Rattle.obs_epoch.specs.declared.week.Start.TheVariants.{Week}
use Rattle.line_texts.specs.ChannelTexts.{channels_text}
use Rattle.rtcm_inspect.specs.Fitting.{height_text, position_text}
use Rattle.rtcm_command.specs.SetupOptions.{IsNumberOf, IsNumberOr, IsStartSet, channels_set, text_set, values_set}

-- With the position and the height of a station message in range, the station values are those that the message brings.
abbrev pub AreReadAsStation : Type 0
AreReadAsStation = (options : List Row) (s : StationParts) → InRange s
    → text_set options (codes "position") ≡ position_text s
    → text_set options (codes "antenna-height") ≡ height_text s.height
    → values_set options ≡ Ok (values_from s 0)

-- with the defaults of both options, which hold if no station message came, they are 0
abbrev pub AreZeroByDefault : Type 0
AreZeroByDefault = (options : List Row) → text_set options (codes "position") ≡ codes "0,0,0"
    → text_set options (codes "antenna-height") ≡ height_text None → values_set options ≡ Ok no_values

-- with the number of a week, this week is the one that the options give, if they don't give a date too
abbrev pub IsWeekRead : Type 0
IsWeekRead = (options : List Row) (n : ℕ) (start : Start) → n < weeks
    → first_of (codes "week") options ≡ Some (decimal n)
    → (IsStartSet options start ↔ ((first_of (codes "near") options ≡ None) × (start ≡ Week n)))

-- with the number of a station, its messages count
abbrev pub IsStationRead : Type 0
IsStationRead = (options : List Row) (n : ℕ) (found : Option ℕ) → n < 2 ^ 16
    → one_of (codes "station") options ≡ Some (decimal n)
    → IsNumberOf 16 (one_of (codes "station") options) found → found ≡ Some n

-- with a number of leap seconds, GPS time minus UTC is this number
abbrev pub AreLeapSecondsRead : Type 0
AreLeapSecondsRead = (options : List Row) (n m otherwise : ℕ) → n < 2 ^ 8
    → one_of (codes "leap-seconds") options ≡ Some (decimal n)
    → IsNumberOr 8 otherwise (one_of (codes "leap-seconds") options) m → m ≡ n

-- with the text of channels, the satellites have these channels
abbrev pub AreChannelsSet : Type 0
AreChannelsSet = (options : List Row) (channels : ChannelsValue) → AreChannels channels
    → text_set options (codes "glonass-channels") ≡ channels_text channels → channels_set options ≡ Ok channels
