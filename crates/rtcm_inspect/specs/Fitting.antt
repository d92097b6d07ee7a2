-- The options of `convert` that fit a stream.
use Rattle.std.specs.Prelude.{ℕ, pos, List, [], ◌∷◌, ◌++◌, Option, Some, None, codes, decimal, flat_map, if◌then◌else◌, length, nat_lt, not, ◌&&◌}
use Rattle.std.specs.List.{join_with_byte}
use Rattle.gnss_system.specs.declared.system.System.{System}
use Rattle.gnss_system.specs.declared.system.System.TheVariants.{Gps, Galileo, Glonass}
use Rattle.gnss_system.specs.Satellites.{name_of}
use Rattle.gnss_system.specs.Systems.{systems}
use Rattle.rtcm_msg.specs.declared.station.StationParts.{StationParts}
use Rattle.rtcm_msg.specs.declared.number.Forms.{Forms}
use Rattle.rtcm_msg.specs.declared.number.Forms.TheVariants.{FourAndSeven, All}
use Rattle.rtcm_scan.specs.Frames.{Framed}
use Rattle.gnss_obs.specs.Values.{PlanValue, planned_of}
use Rattle.gnss_obs.specs.Channels.{ChannelsValue}
use Rattle.obs_epoch.specs.Sets.{is_always_decoded}
use Rattle.line_texts.specs.ChannelTexts.{channels_text}
use Rattle.rtcm_inspect.specs.FirstMessages.{first_station}
use Rattle.line_texts.specs.Lines.{line}
use Rattle.line_texts.specs.Metres.{metres}
use Rattle.rtcm_inspect.specs.Signals.{codes_word, forms_had, plan_in}

-- X, Y and Z in metres
abbrev pub position_text : StationParts → List ℕ
position_text s = join_with_byte 0x2C (metres s.x ∷ metres s.y ∷ metres s.z ∷ [])

-- The value follows a `=`, since it may begin with a minus sign.
abbrev pub position_word : StationParts → List ℕ
position_word s = codes "--position=" ++ position_text s

-- the value of `--antenna-height`, or its default without a height
abbrev pub height_text : Option ℕ → List ℕ
height_text None = codes "0"
height_text (Some h) = metres (pos h)

-- the antenna height (DF028), which message 1006 has
abbrev pub antenna_words : Option ℕ → List (List ℕ)
antenna_words None = []
antenna_words (Some h) = codes "--antenna-height" ∷ height_text (Some h) ∷ []

abbrev pub station_words : Option StationParts → List (List ℕ)
station_words None = []
station_words (Some s) = position_word s ∷ antenna_words s.height

-- the words of this option
abbrev pub number_words : List ℕ → Option ℕ → List (List ℕ)
number_words name None = []
number_words name (Some n) = name ∷ decimal n ∷ []

-- the channels in a text, if there is one
abbrev pub channel_words : List ℕ → List (List ℕ)
channel_words [] = []
channel_words (b ∷ bs) = codes "--glonass-channels" ∷ (b ∷ bs) ∷ []

-- of GLONASS the channels, and the leap seconds, if they are known
abbrev pub further_words : (leap : Option ℕ) → ChannelsValue → System → List (List ℕ)
further_words leap channels Glonass =
    channel_words (channels_text channels) ++ number_words (codes "--leap-seconds") leap
further_words leap channels other = []

-- the signals of another system than GPS and Galileo, if there are some
abbrev pub other_words : (leap : Option ℕ) → PlanValue → System → List (List ℕ)
other_words leap p s =
    if not (is_always_decoded s) && nat_lt 0 (length (planned_of s p))
    then (codes "--" ++ name_of s) ∷ codes_word s (planned_of s p) ∷ further_words leap p.channels s
    else []

-- the forms, if they aren't the default
abbrev pub forms_words : Forms → List (List ℕ)
forms_words FourAndSeven = []
forms_words All = codes "--msm" ∷ codes "all" ∷ []

-- the words of the options with this week, these leap seconds and this station that plan these signals in these forms,
-- and of those with the values of this station message
abbrev pub option_words : (week leap station : Option ℕ) → PlanValue → Forms → Option StationParts → List (List ℕ)
option_words week leap station p forms first =
    number_words (codes "--week") week
    ++ (number_words (codes "--station") station
    ++ codes "--gps" ∷ codes_word Gps p.signals.gps ∷ codes "--galileo" ∷ codes_word Galileo p.signals.galileo
    ∷ (flat_map (other_words leap p) systems ++ (forms_words forms ++ station_words first)))

-- their line
unfoldable pub options_line : (week leap station : Option ℕ) → PlanValue → Forms → Option StationParts → List ℕ
options_line week leap station p forms first = line (option_words week leap station p forms first)

-- the output of `options` for these frames, with this week and these leap seconds
abbrev pub options_text : (week leap wanted : Option ℕ) → List Framed → List ℕ
options_text week leap wanted fs =
    options_line week leap wanted (plan_in wanted fs) (forms_had wanted fs) (first_station wanted fs)
