-- A conversion with the options that `options` prints for a stream.
use Rattle.std.specs.Prelude.{◌≡◌, ◌+◌, ◌*◌, ◌<◌, ◌^◌, ◌==◌, Bool, ℕ, List, [], ◌∷◌, ◌++◌, codes, get_or, length}
use Rattle.std.specs.Prelude.{Option, Some, None, IfSome, unwrap_or, if◌then◌else◌}
use Rattle.std.specs.List.{list_any}
use Rattle.std.specs.Option.{option_map_or, option_or}
use Rattle.std.specs.Str.{bytes_eq}
use Rattle.clap.specs.Walk.{Row, Rule, first_of, one_of}
use Rattle.gnss_system.specs.declared.system.System.{System}
use Rattle.gnss_system.specs.declared.system.System.TheVariants.{Glonass}
use Rattle.gnss_system.specs.Satellites.{name_of}
use Rattle.gnss_obs.specs.Values.{PlanValue, no_values}
use Rattle.gnss_obs.specs.Weeks.{week}
use Rattle.rtcm_scan.specs.Frames.{Framed}
use Rattle.obs_epoch.specs.Epochs.{values_from}
use Rattle.obs_epoch.specs.NearWeek.{IsWeekNear}
use Rattle.obs_epoch.specs.Sets.{is_decoded}
use Rattle.obs_epoch.specs.declared.week.Start.{Start}
use Rattle.obs_epoch.specs.Times.{timed}
use Rattle.obs_epoch.specs.declared.week.Start.TheVariants.{Week}
use Rattle.command_line.specs.CommandLine as rules
use Rattle.line_texts.specs.LeapSeconds.{leap_at}
use Rattle.line_texts.specs.Lines.{line}
use Rattle.rtcm_inspect.specs.FirstMessages.{first_station}
use Rattle.rtcm_inspect.specs.WeekLaws.{first_tow, first_time}
use Rattle.rtcm_inspect.specs.Fitting.{option_words, options_text}
use Rattle.rtcm_inspect.specs.FirstTwo.{first_two}
use Rattle.rtcm_inspect.specs.OptionOutput.{IsPrinted}
use Rattle.rtcm_inspect.specs.SentWeeks.{leap_by, week_by, whole_in}
use Rattle.rtcm_inspect.specs.declared.first_two.FirstTwo.TheVariants.{One}
use Rattle.rtcm_inspect.specs.declared.printed_week.WeekSource.{WeekSource}
use Rattle.rtcm_inspect.specs.declared.printed_week.WeekSource.TheVariants.{Near, Ephemerides}
use Rattle.rtcm_inspect.specs.Signals.{forms_had, plan_in, set_had, valued_in}
use Rattle.rtcm_convert.specs.Converted.{messages_of}
use Rattle.rtcm_convert.specs.SetupValues.{setup_value}
use Rattle.rtcm_convert.specs.declared.setup.Setup.{Setup}
use Rattle.rtcm_command.specs.SetupOptions.{IsSetupOf, text_set, usual_leap}

-- ---- the options that words give

-- a word has a `=`
abbrev pub has_equals : List ℕ → Bool
has_equals w = list_any (λ b. b == 0x3D) w

-- what follows a prefix of a text
abbrev pub after_prefix : (prefix text : List ℕ) → Option (List ℕ)
after_prefix [] text = Some text
after_prefix (a ∷ prefix) [] = None
after_prefix (a ∷ prefix) (b ∷ text) = if a == b then after_prefix prefix text else None

-- The value of an option in words. The value of each option is in its word after a `=`, or else it is the next word.
abbrev pub given : (name : List ℕ) → List (List ℕ) → Option (List ℕ)
given name [] = None
given name (w ∷ []) = after_prefix (codes "--" ++ (name ++ codes "=")) w
given name (w ∷ v ∷ ws) =
    if has_equals w then option_or (after_prefix (codes "--" ++ (name ++ codes "=")) w) (given name (v ∷ ws))
    else (if bytes_eq w (codes "--" ++ name) then Some v else given name ws)

-- the default that the command line gives to an option
abbrev pub default_of : Rule → List ℕ
default_of rule = get_or rule.defaults 0 []

-- The options of a conversion have the values that words give to them, and else their defaults.
pub record HaveValues (options : List Row) (words : List (List ℕ)) : Type 0 where
  pub week : IfSome (given (codes "week") words) (λ t. first_of (codes "week") options ≡ Some t)
  pub station : one_of (codes "station") options ≡ given (codes "station") words
  pub signals : (s : System) → text_set options (name_of s) ≡ unwrap_or (given (name_of s) words) (default_of (rules.planned s))
  pub channels : text_set options (codes "glonass-channels") ≡ unwrap_or (given (codes "glonass-channels") words) (default_of rules.channels)
  pub leap_seconds : one_of (codes "leap-seconds") options ≡ given (codes "leap-seconds") words
  pub forms : text_set options (codes "msm") ≡ unwrap_or (given (codes "msm") words) (codes "4,7")
  pub position : text_set options (codes "position") ≡ unwrap_or (given (codes "position") words) (default_of rules.position)
  pub height : text_set options (codes "antenna-height") ≡ unwrap_or (given (codes "antenna-height") words) (default_of rules.height)

-- the words that `options` prints for these frames with this week, these leap seconds and this station
abbrev pub printed_words : (w leap wanted : Option ℕ) → List Framed → List (List ℕ)
printed_words w leap wanted fs =
    option_words w leap wanted (plan_in wanted fs) (forms_had wanted fs) (first_station wanted fs)

-- ---- the conversion

-- the leap seconds, which are printed with signals of GLONASS if they are known; else those without their option
abbrev pub leap_option : (leap : Option ℕ) → PlanValue → Start → ℕ
leap_option leap p start = if is_decoded p Glonass then unwrap_or leap (usual_leap start) else usual_leap start

-- A conversion starts with what `options` found in these frames: the plan with its channels, the forms, the station,
-- the week, the leap seconds, and the values of the first station message, which are 0 without one.
pub record StartsAsFound (x : Setup) (w leap wanted : Option ℕ) (fs : List Framed) : Type 0 where
  pub plan : x.gatherer.plan ≡ plan_in wanted fs
  pub forms : x.forms ≡ forms_had wanted fs
  pub station : x.gatherer.station ≡ wanted
  pub week : IfSome w (λ n. x.gatherer.start ≡ Week n)
  pub leap_seconds : x.gatherer.leap_seconds ≡ leap_option leap (plan_in wanted fs) x.gatherer.start
  pub initial : x.gatherer.initial ≡ option_map_or (λ s. values_from s 0) (first_station wanted fs) no_values

-- its first accepted message is the first MSM that it decodes, which has this time of week, and is in this week
abbrev pub IsDatedAt : (w tow leap : ℕ) → Setup → (wanted : Option ℕ) → List Framed → Type 0
IsDatedAt w tow leap x wanted fs = (first_tow leap (set_had wanted fs) wanted fs ≡ Some tow)
    × (first_time (timed (setup_value x).gatherer (messages_of (setup_value x) fs)) ≡ Some (w * week + tow))

-- These are the week and the leap seconds that `options` prints, and the options are as printed.
pub record AreOptionsPrinted (options : List Row) (source : WeekSource) (w leap wanted : Option ℕ)
    (fs : List Framed) : Type 0 where
  pub station : IfSome wanted (λ n. n < 2 ^ 16)
  pub some : 0 < length (valued_in wanted fs)
  pub week : IsPrinted source wanted fs w leap
  pub printed : HaveValues options (printed_words w leap wanted fs)

-- ---- laws

-- the line that `options` prints has these words
abbrev pub ArePrintedWords : Type 0
ArePrintedWords = (w leap wanted : Option ℕ) (fs : List Framed)
    → options_text w leap wanted fs ≡ line (printed_words w leap wanted fs)

abbrev pub IsStartedAsFound : Type 0
IsStartedAsFound = (options : List Row) (source : WeekSource) (w leap wanted : Option ℕ) (fs : List Framed) (x : Setup)
    → AreOptionsPrinted options source w leap wanted fs → IsSetupOf options x → StartsAsFound x w leap wanted fs

-- A week is printed: the one in which the first MSM is nearest to the noon of the date.
abbrev pub IsDatedAsPrinted : Type 0
IsDatedAsPrinted = (options : List Row) (noon : ℕ) (w leap wanted : Option ℕ) (fs : List Framed) (x : Setup)
    → AreOptionsPrinted options (Near noon) w leap wanted fs → IsSetupOf options x
    → (n tow : ℕ) × (w ≡ Some n) × IsWeekNear noon tow n × IsDatedAt n tow (leap_at noon) x wanted fs

-- By the ephemerides, which all say that GPS week d was counted as week 0, it is the one that they say.
abbrev pub IsDatedAsSent : Type 0
IsDatedAsSent = (options : List Row) (d : ℕ) (w leap wanted : Option ℕ) (fs : List Framed) (x : Setup)
    → AreOptionsPrinted options Ephemerides w leap wanted fs → IsSetupOf options x → first_two (whole_in wanted fs) ≡ One d
    → (tow : ℕ) × IsDatedAt (week_by wanted fs d) tow (leap_by wanted fs d) x wanted fs
