-- The program's command line: its commands and their options, by which clap's definitions read words. They agree with
-- the manual page.
use Rattle.std.specs.Prelude.{◌≡◌, pos, true, List, [], ◌∷◌, ◌++◌, map, flat_map, fold, codes, Some}
use Rattle.std.specs.Borrow.{Bor}
use Rattle.clap.specs.Walk.{Row, Rule, Text}
use Rattle.clap.specs.Simple.{App, new_app, new_rule, on_top, subcommand_of, with_rule, with_subcommand}
use Rattle.clap.specs.Faults.{fault_of}
use Rattle.clap.specs.Kinds.{IsAmong}
use Rattle.clap.specs.declared.error.kind.ErrorKind.{ErrorKind}
use Rattle.clap.specs.declared.builder.action.ArgAction.TheVariants as action
use Rattle.clap.specs.declared.builder.value_parser.ValueParser.{ValueParser}
use Rattle.clap.specs.declared.builder.value_parser.ValueParser.TheVariants as value
use Rattle.gnss_system.specs.declared.system.System.{System}
use Rattle.gnss_system.specs.declared.system.System.TheVariants.{Gps, Galileo, Glonass}
use Rattle.gnss_system.specs.Satellites.{name_of}
use Rattle.gnss_system.specs.Systems.{systems}
use Rattle.rtcm_scan.specs.Scan.{most_bytes}

-- ---- options

-- `--name VALUE` or `--name=VALUE`; it isn't given twice
abbrev pub named : Text → Rule
named name = record (new_rule name) { long = Some name; value_names = 1; action = Some action.Set }

abbrev pub or_else : Text → Rule → Rule
or_else default a = record a { defaults = default ∷ [] }

abbrev pub read_by : ValueParser → Rule → Rule
read_by parser a = record a { parser = Some parser }

-- the value is any text
abbrev pub option : Text → Rule
option name = read_by value.String (named name)

-- `--name`, which has the value `true` if it is given, and else `false`
abbrev pub flag : Text → Rule
flag name = record (read_by value.Bool (named name)) { action = Some action.SetTrue }

abbrev pub required : Rule → Rule
required a = record a { required = true }

-- noon of a date, to which the first observations are near
abbrev pub near : Rule
near = option (codes "near")

-- the times from which on and before which epochs are written, or expected
abbrev pub from : Rule
from = option (codes "from")

abbrev pub until : Rule
until = option (codes "until")

-- the option of the planned signals of a system: without it, all of GPS and Galileo, and none of another system
abbrev pub signals_otherwise : System → Text
signals_otherwise Gps = codes "all"
signals_otherwise Galileo = codes "all"
signals_otherwise other = codes "none"

abbrev pub planned : System → Rule
planned s = or_else (signals_otherwise s) (option (name_of s))

-- the option of a system, followed by those of the channels and the leap seconds if it is GLONASS
abbrev pub channels : Rule
channels = or_else [] (option (codes "glonass-channels"))

abbrev pub planned_with : System → List Rule
planned_with Glonass =
    planned Glonass ∷ channels ∷ read_by (value.Unsigned 0 255) (option (codes "leap-seconds")) ∷ []
planned_with other = planned other ∷ []

abbrev pub station : Rule
station = read_by (value.Signed (pos 0) (pos 4095)) (option (codes "station"))

-- the position that holds until a station message has another
abbrev pub position : Rule
position = or_else (codes "0,0,0") (option (codes "position"))

abbrev pub height : Rule
height = or_else (codes "0") (option (codes "antenna-height"))

-- an option whose value is one of these names, the first if it isn't given; their addresses don't matter
abbrev pub Choices : Type 0
Choices = Bor (List (Bor Text))

abbrev pub AreChoices : List Text → Choices → Type 0
AreChoices texts names = map (λ s. s.now) names.now ≡ texts

abbrev pub choice : Text → Text → Choices → Rule
choice name first names = read_by (value.Names names) (or_else first (option name))

abbrev pub text : Text → Rule
text name = or_else [] (option name)

-- the optional texts of the header
abbrev pub texts : List Rule
texts =
    text (codes "run-by") ∷ text (codes "comment") ∷ text (codes "marker") ∷ text (codes "marker-number")
    ∷ or_else (codes "GEODETIC") (option (codes "marker-type"))
    ∷ text (codes "observer") ∷ text (codes "agency") ∷ text (codes "rec-number") ∷ text (codes "rec-type")
    ∷ text (codes "rec-version") ∷ text (codes "ant-number") ∷ text (codes "ant-type") ∷ []

-- ---- commands

abbrev pub with_options : App → List Rule → App
with_options a rules = fold with_rule a rules

-- of `--week` and `--near` one has to be given
abbrev pub convert : (forms rules : Choices) → App
convert forms rules = with_options (with_options (new_app (codes "convert"))
    (option (codes "week") ∷ near ∷ required (option (codes "date"))
    ∷ from ∷ until ∷ option (codes "interval") ∷ or_else (codes "0.005") (option (codes "tolerance"))
    ∷ (flat_map planned_with systems
    ++ choice (codes "msm") (codes "4,7") forms ∷ station ∷ position ∷ height
    ∷ choice (codes "gather") (codes "bit") rules
    ∷ read_by (value.Unsigned 0 most_bytes) (or_else (codes "281474976710656") (option (codes "limit"))) ∷ [])))
    texts

-- a command is required, and `--version` is accepted
abbrev pub start_of : Text → App
start_of name = on_top (λ s. record s { subcommand_required = true; has_version = true }) (new_app name)

abbrev pub start : App
start = start_of (codes "rtcm2rinex")

abbrev pub commands : (forms rules : Choices) → List App
commands forms rules =
    new_app (codes "frames")
    ∷ with_options (new_app (codes "show")) (flag (codes "all") ∷ [])
    ∷ with_options (new_app (codes "signals")) (station ∷ [])
    ∷ with_options (new_app (codes "options")) (station ∷ flag (codes "week") ∷ near ∷ [])
    ∷ convert forms rules
    ∷ with_options (new_app (codes "check")) (flag (codes "times") ∷ option (codes "gaps") ∷ from ∷ until ∷ [])
    ∷ with_options (new_app (codes "quality")) (option (codes "every") ∷ []) ∷ []

abbrev pub with_commands : App → List App → App
with_commands a commands = fold (λ (program : App) (command : App). with_subcommand program command.top) a commands

abbrev pub program : (forms rules : Choices) → App
program forms rules = with_commands start (commands forms rules)

-- the commands and options are those of the program
abbrev pub IsProgram : App → Type 0
IsProgram a = (forms : Choices) × (rules : Choices) × AreChoices (codes "4,7" ∷ codes "all" ∷ []) forms
    × AreChoices (codes "bit" ∷ codes "time" ∷ []) rules × (a ≡ program forms rules)

-- the output of `--version`: the name, the version, and the toolchain that proves and builds it, as `rt version`
-- prints it
abbrev pub version_line : Text
version_line = codes "rtcm2rinex 1.4.0 (rattle-kit-13f logic dac8208d650f15bf)" ++ 0x0A ∷ []

-- ---- what words ask for, by clap's own definitions

-- the words have no fault, and ask for the command of this name with these options
abbrev pub SelectsCommand : List Text → Text → List Row → Type 0
SelectsCommand words name options =
    (a : App) × IsProgram a × (fault_of a words ≡ []) × (subcommand_of a words ≡ Some (name, options))

-- the words have a fault or ask for a text, and this is the kind of the error
abbrev pub FailsParsing : List Text → ErrorKind → Type 0
FailsParsing words k = (a : App) × IsProgram a × IsAmong k (fault_of a words)
