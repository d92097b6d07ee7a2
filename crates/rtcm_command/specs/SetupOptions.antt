-- The values that the options of the commands give.
use Rattle.std.specs.Prelude.{◌≡◌, ◌<◌, ◌^◌, nat_lt, ℕ, ℤ, List, [], ◌∷◌, map, Option, Some, None, Result, Ok, Err, codes}
use Rattle.std.specs.Prelude.{Bool, true, false, is_some, nat_le, option_and_then, ok_or, unwrap_or, not, ◌⊎◌}
use Rattle.std.specs.Prelude.{if◌then◌else◌, MatchOption, option_map}
use Rattle.std.specs.Str.{bytes_eq}
use Rattle.std.specs.Str.Parse.{IsNumeral, digits_value, without_leading_plus}
use Rattle.clap.specs.Walk.{Row, first_of, one_of, rows_of}
use Rattle.clap.specs.Matches.{found_of}
use Rattle.clap.specs.declared.parser.matches.ArgMatches.{ArgMatches}
use Rattle.rtcm_msg.specs.declared.number.Forms.{Forms}
use Rattle.rtcm_msg.specs.declared.number.Forms.TheVariants.{FourAndSeven, All}
use Rattle.rtcm_scan.specs.Scan.{most_bytes}
use Rattle.obs_epoch.specs.Choices.{every_epoch}
use Rattle.obs_epoch.specs.Heard.{is_by_bit}
use Rattle.obs_epoch.specs.Kinds.{default_leap}
use Rattle.obs_epoch.specs.declared.week.Start.{Start}
use Rattle.obs_epoch.specs.declared.week.Start.TheVariants.{Week, Near}
use Rattle.obs_epoch.specs.declared.choice.Choice.{Choice}
use Rattle.gnss_system.specs.Satellites.{name_of}
use Rattle.gnss_system.specs.SystemValues.{tabulate}
use Rattle.gnss_system.specs.declared.by_system.BySystem.{BySystem}
use Rattle.gnss_obs.specs.Channels.{ChannelsValue}
use Rattle.gnss_obs.specs.Plans.{HasSignal, plan_of, with_channels}
use Rattle.gnss_obs.specs.Values.{PlanValue}
use Rattle.gnss_obs.specs.declared.fault.PlanFault.{PlanFault}
use Rattle.gnss_obs.specs.declared.fault.PlanFault.TheVariants as plans
use Rattle.rinex_file.specs.Texts.{HeaderLists, trimmed_texts, first_fault, fields}
use Rattle.gnss_obs.specs.declared.cell.StationValues.{StationValues}
use Rattle.rtcm_convert.specs.declared.setup.Setup.{Setup}
use Rattle.line_texts.specs.ChannelTexts.{channels_of}
use Rattle.line_texts.specs.Dates.{IsHourOf, IsTimeOf, IsWeekOf}
use Rattle.line_texts.specs.LeapSeconds.{leap_at}
use Rattle.line_texts.specs.Lengths.{epoch_interval_of, interval_of, length_below, position_of, tolerance_of}
use Rattle.rtcm_inspect.specs.declared.printed_week.WeekSource.{WeekSource}
use Rattle.rtcm_inspect.specs.declared.printed_week.WeekSource.TheVariants as sources
use Rattle.command_faults.specs.declared.fault.DateOption.{DateOption}
use Rattle.command_faults.specs.declared.fault.DateOption.TheVariants as dated
use Rattle.command_faults.specs.declared.fault.CommandFault.{CommandFault}
use Rattle.command_faults.specs.declared.fault.CommandFault.TheVariants as faults

-- the options of the command line, as clap's definitions list them
abbrev pub options_of : ArgMatches → List Row
options_of m = rows_of (found_of m)

-- the text of an option; empty if it has none
abbrev pub text_set : List Row → List ℕ → List ℕ
text_set options name = unwrap_or (first_of name options) []

-- the texts of the header, each by the option of its name
abbrev pub texts_set : List Row → HeaderLists
texts_set options =
    map (text_set options)
    (codes "run-by" ∷ codes "date" ∷ codes "comment" ∷ codes "marker" ∷ codes "marker-number" ∷ codes "marker-type"
    ∷ codes "observer" ∷ codes "agency"
    ∷ codes "rec-number" ∷ codes "rec-type" ∷ codes "rec-version" ∷ codes "ant-number" ∷ codes "ant-type" ∷ [])

-- a text is the decimal form of a number of `bits` bits, with or without a leading plus sign
abbrev pub IsDecimalForm : ℕ → List ℕ → Type 0
IsDecimalForm bits text =
    IsNumeral 10 (without_leading_plus text) × (digits_value 10 (without_leading_plus text) < 2 ^ bits)

-- the number of `bits` bits in a text, if there is a text and it is the decimal form of one
abbrev pub IsNumberOf : ℕ → Option (List ℕ) → Option ℕ → Type 0
IsNumberOf bits None n = n ≡ None
IsNumberOf bits (Some text) None = IsDecimalForm bits text → ⊥
IsNumberOf bits (Some text) (Some n) = IsDecimalForm bits text × (n ≡ digits_value 10 (without_leading_plus text))

-- the number of an option, or `otherwise` if it has none
abbrev pub IsNumberOr : ℕ → ℕ → Option (List ℕ) → ℕ → Type 0
IsNumberOr bits otherwise text n = (found : Option ℕ) × IsNumberOf bits text found × (n ≡ unwrap_or found otherwise)

-- The value that was read from the text of an option, if it is given; or this fault, if none was read.
pub record IsGiven {A : Type 0} (Reads : List ℕ → Option A → Type 0) (fault : CommandFault) (text : Option (List ℕ))
    (value : Result (Option A) CommandFault) : Type 0 where
  pub none : text ≡ None → value ≡ Ok None
  pub some : (t : List ℕ) → text ≡ Some t
      → (read : Option A) × Reads t read × (value ≡ ok_or (option_map Some read) fault)

-- this function reads the value in a text
abbrev pub IsReadBy : {A : Type 0} → (read : List ℕ → Option A) → List ℕ → Option A → Type 0
IsReadBy read text value = value ≡ read text

-- the time that a text is, or that it isn't one
abbrev pub IsTimeBy : (IsTime : List ℕ → ℕ → Type 0) → List ℕ → Option ℕ → Type 0
IsTimeBy IsTime text time = MatchOption time ((t : ℕ) → IsTime text t → ⊥) (IsTime text)

-- what the texts of `--week` and `--near` give: one of them has to be given
abbrev pub IsStartOf : (week near : Option (List ℕ)) → Start → Type 0
IsStartOf (Some text) None start = (n : ℕ) × IsWeekOf text n × (start ≡ Week n)
IsStartOf None (Some text) start = (noon : ℕ) × IsHourOf 12 text noon × (start ≡ Near noon)
IsStartOf week near start = ⊥

-- the fault of these texts
abbrev pub IsStartFault : (week near : Option (List ℕ)) → CommandFault → Type 0
IsStartFault (Some text) None fault = (fault ≡ faults.BadDate dated.Week) × ((n : ℕ) → IsWeekOf text n → ⊥)
IsStartFault None (Some text) fault = (fault ≡ faults.BadDate dated.Near) × ((noon : ℕ) → IsHourOf 12 text noon → ⊥)
IsStartFault week near fault = fault ≡ faults.OneOf

-- what gives the week of a conversion
abbrev pub IsStartSet : List Row → Start → Type 0
IsStartSet options = IsStartOf (first_of (codes "week") options) (first_of (codes "near") options)

-- it isn't given, which is this fault
abbrev pub IsStartRefused : List Row → CommandFault → Type 0
IsStartRefused options = IsStartFault (first_of (codes "week") options) (first_of (codes "near") options)

-- noon of the date that `--near` of `options` gives, if it is given, or its fault
abbrev pub IsNearSet : List Row → Result (Option ℕ) CommandFault → Type 0
IsNearSet options = IsGiven (IsTimeBy (IsHourOf 12)) (faults.BadDate dated.Near) (first_of (codes "near") options)

-- the flag of this name is given
abbrev pub has_flag : List ℕ → List Row → Bool
has_flag name options = bytes_eq (text_set options name) (codes "true")

-- where the week of the command `options` comes from: the ephemerides if `--week` is given, or a date that is given
abbrev pub source_near : Option ℕ → WeekSource
source_near None = sources.Unprinted
source_near (Some noon) = sources.Near noon

abbrev pub IsSourceSet : List Row → WeekSource → Type 0
IsSourceSet options source =
    ((has_flag (codes "week") options ≡ true) × (first_of (codes "near") options ≡ None)
    × (source ≡ sources.Ephemerides))
    ⊎ ((has_flag (codes "week") options ≡ false)
    × ((near : Option ℕ) × IsNearSet options (Ok near) × (source ≡ source_near near)))

-- both are given, or the text of `--near` isn't a date, which is this fault
abbrev pub IsSourceRefused : List Row → CommandFault → Type 0
IsSourceRefused options fault =
    ((has_flag (codes "week") options ≡ true) × (is_some (first_of (codes "near") options) ≡ true)
    × (fault ≡ faults.OneOf))
    ⊎ ((has_flag (codes "week") options ≡ false) × IsNearSet options (Err fault))

-- the forms of MSM that are read
abbrev pub forms_set : List Row → Forms
forms_set options = if bytes_eq (text_set options (codes "msm")) (codes "all") then All else FourAndSeven

-- the interval that `--gaps` gives, if it is given, or its fault
abbrev pub IsGapsSet : List Row → Result (Option ℕ) CommandFault → Type 0
IsGapsSet options = IsGiven (IsReadBy interval_of) faults.BadGaps (first_of (codes "gaps") options)

-- the length of a period: an interval of epochs of 1 s or more
abbrev pub period_length_of : List ℕ → Option ℕ
period_length_of text = option_and_then (λ n. if nat_le 1000 n then Some n else None) (epoch_interval_of text)

-- the length of the periods that `--every` gives, if it is given, or its fault
abbrev pub IsEverySet : List Row → Result (Option ℕ) CommandFault → Type 0
IsEverySet options = IsGiven (IsReadBy period_length_of) faults.BadEvery (first_of (codes "every") options)

-- ---- the choice of epochs

-- the time that an option gives, if it is given, or its fault
abbrev pub IsTimeSet : DateOption → (name : List ℕ) → List Row → Result (Option ℕ) CommandFault → Type 0
IsTimeSet option name options = IsGiven (IsTimeBy IsTimeOf) (faults.BadDate option) (first_of name options)

abbrev pub IsFromSet : List Row → Result (Option ℕ) CommandFault → Type 0
IsFromSet = IsTimeSet dated.From (codes "from")

abbrev pub IsUntilSet : List Row → Result (Option ℕ) CommandFault → Type 0
IsUntilSet = IsTimeSet dated.Until (codes "until")

-- the window from a time until a later one, without them that of every epoch, or the fault of a time
abbrev pub window_between : (from until : ℕ) → Result (ℕ × ℕ) CommandFault
window_between from until = if nat_lt from until then Ok (from, until) else Err faults.BadWindow

abbrev pub window_by : (from until : Result (Option ℕ) CommandFault) → Result (ℕ × ℕ) CommandFault
window_by (Err e) until = Err e
window_by (Ok from) (Err e) = Err e
window_by (Ok from) (Ok until) = window_between (unwrap_or from every_epoch.from) (unwrap_or until every_epoch.until)

abbrev pub IsWindowSet : List Row → Result (ℕ × ℕ) CommandFault → Type 0
IsWindowSet options window = (from until : Result (Option ℕ) CommandFault) × IsFromSet options from
    × IsUntilSet options until × (window ≡ window_by from until)

-- the interval that `--interval` gives, if it is given, or its fault
abbrev pub IsIntervalSet : List Row → Result (Option ℕ) CommandFault → Type 0
IsIntervalSet options = IsGiven (IsReadBy epoch_interval_of) faults.BadInterval (first_of (codes "interval") options)

-- the tolerance that `--tolerance` gives at an interval, or its fault
abbrev pub tolerance_set : List Row → Option ℕ → Result ℕ CommandFault
tolerance_set options interval =
    ok_or (tolerance_of interval (text_set options (codes "tolerance"))) faults.BadTolerance

-- the choice of these settings, or the first fault: that of the window, of the interval, or of the tolerance at it
abbrev pub choice_with : ℕ × ℕ → Option ℕ → Result ℕ CommandFault → Result Choice CommandFault
choice_with window interval (Err e) = Err e
choice_with window interval (Ok tolerance) =
    Ok (record { from = window.0; until = window.1; interval = interval; tolerance = tolerance })

abbrev pub choice_by : Result (ℕ × ℕ) CommandFault → Result (Option ℕ) CommandFault → (Option ℕ → Result ℕ CommandFault)
    → Result Choice CommandFault
choice_by (Err e) interval tolerance = Err e
choice_by (Ok window) (Err e) tolerance = Err e
choice_by (Ok window) (Ok interval) tolerance = choice_with window interval (tolerance interval)

-- the choice of epochs that the options give, or the fault of the first option that is invalid
abbrev pub IsChoiceSet : List Row → Result Choice CommandFault → Type 0
IsChoiceSet options choice = (window : Result (ℕ × ℕ) CommandFault) × (interval : Result (Option ℕ) CommandFault)
    × IsWindowSet options window × IsIntervalSet options interval
    × (choice ≡ choice_by window interval (tolerance_set options))

-- ---- the setup

-- the texts of the options for the signals of each system
abbrev pub plan_texts : List Row → BySystem (List ℕ)
plan_texts options = tabulate (λ s. text_set options (name_of s))

-- The plan of the options for it without channels, or its fault.
unfoldable pub plan_set : List Row → Result PlanValue PlanFault
plan_set options = plan_of (plan_texts options)

-- the channels that the options give, or the fault of their text
abbrev pub channels_set : List Row → Result ChannelsValue CommandFault
channels_set options = ok_or (channels_of (text_set options (codes "glonass-channels"))) faults.BadChannels

-- the plan with the channels that the options give
abbrev pub IsPlanSet : List Row → PlanValue → Type 0
IsPlanSet options plan = (p : PlanValue) × (channels : ChannelsValue) × (plan_set options ≡ Ok p)
    × (channels_set options ≡ Ok channels) × (plan ≡ with_channels p channels)

-- the station values of a position and an antenna height, or the fault of the text that isn't one
abbrev pub values_by : Option (ℤ × ℤ × ℤ) → Option ℕ → Result StationValues CommandFault
values_by None height = Err faults.BadPosition
values_by (Some p) None = Err faults.BadHeight
values_by (Some (x, y, z)) (Some h) = Ok (record { x = x; y = y; z = z; height = h })

abbrev pub values_in : (position height : List ℕ) → Result StationValues CommandFault
values_in position height = values_by (position_of position) (length_below (2 ^ 16) height)

-- the station values that the options give, or the fault of the option that is invalid
abbrev pub values_set : List Row → Result StationValues CommandFault
values_set options = values_in (text_set options (codes "position")) (text_set options (codes "antenna-height"))

-- the leap seconds without their option: those of the date that gives the week, and else those from 2017 on
abbrev pub usual_leap : Start → ℕ
usual_leap (Week n) = default_leap
usual_leap (Near noon) = leap_at noon

-- The setup of a conversion has the value of each option, by its name.
pub record IsSetupOf (options : List Row) (x : Setup) : Type 0 where
  pub texts : x.texts ≡ trimmed_texts (texts_set options)
  pub plan : IsPlanSet options x.gatherer.plan
  pub start : IsStartSet options x.gatherer.start
  pub station : IsNumberOf 16 (one_of (codes "station") options) x.gatherer.station
  pub gather : is_by_bit x.gatherer.gather ≡ not (bytes_eq (text_set options (codes "gather")) (codes "time"))
  pub initial : values_set options ≡ Ok x.gatherer.initial
  pub leap : IsNumberOr 8 (usual_leap x.gatherer.start) (one_of (codes "leap-seconds") options) x.gatherer.leap_seconds
  pub choice : IsChoiceSet options (Ok x.gatherer.choice)
  pub forms : x.forms ≡ forms_set options
  pub limit : IsNumberOr 64 most_bytes (one_of (codes "limit") options) x.limit

-- Of these options a text of the header has this fault; or the texts are valid, and the plan has this fault, or memory
-- ran out for a signal before its fault.
abbrev pub HasSetupFault : List Row → CommandFault → Type 0
HasSetupFault options (faults.Header e) = first_fault (texts_set options) fields ≡ Some e
HasSetupFault options (faults.Plan e) = (first_fault (texts_set options) fields ≡ None)
    × (((e ≡ plans.Memory) × HasSignal (plan_texts options)) ⊎ (plan_set options ≡ Err e))
HasSetupFault options other = ⊥

-- the fault of the choice of epochs comes before that of the setup
abbrev pub IsRefusedAfterChannels : List Row → CommandFault → Type 0
IsRefusedAfterChannels options fault =
    IsChoiceSet options (Err fault) ⊎ ((choice : Choice) × IsChoiceSet options (Ok choice) × HasSetupFault options fault)

-- the fault of the position or the height, and then that of the channels, comes before these
abbrev pub IsRefusedAfterStart : Result StationValues CommandFault → Result ChannelsValue CommandFault → List Row → CommandFault
    → Type 0
IsRefusedAfterStart (Err e) channels options fault = fault ≡ e
IsRefusedAfterStart (Ok values) (Err e) options fault = fault ≡ e
IsRefusedAfterStart (Ok values) (Ok channels) options fault = IsRefusedAfterChannels options fault

-- These options are refused with this fault: that of the start, else that of the position, else that of the height, else
-- that of the channels, else that of the choice of epochs, else that of a text of the header, else that of the plan.
abbrev pub IsSetupRefused : List Row → CommandFault → Type 0
IsSetupRefused options fault =
    IsStartRefused options fault
    ⊎ ((start : Start) × IsStartSet options start
    × IsRefusedAfterStart (values_set options) (channels_set options) options fault)
