-- What the program has read and written when it ends: the devices were d and are d', and the writer for faults was e and
-- is e'.
use Rattle.std.specs.Prelude.{◌≡◌, ◌⊎◌, ℕ, List, Option, Some, None, Result, Ok, Err, ⊤, codes}
use Rattle.clap.specs.Simple.{subcommand_rows_of}
use Rattle.clap.specs.Walk.{Row, Text, one_of}
use Rattle.clap.specs.declared.error.kind.ErrorKind.TheVariants.{DisplayVersion, OutOfMemory}
use Rattle.clap.specs.declared.error.kind.ErrorKind.{ErrorKind}
use Rattle.clap.specs.declared.parser.matches.ArgMatches.{ArgMatches}
use Rattle.devices.specs.Devices.{AreFine, AreUntouched, Devices, Ends, HaveFailedBy, Writer}
use Rattle.devices.specs.Printing.{PrintsLine, PrintsPart, PrintsSome, PrintsText}
use Rattle.rtcm_scan.specs.Scan.{most_bytes}
use Rattle.rtcm_inspect.specs.FrameLines.{frame_lines}
use Rattle.rtcm_inspect.specs.Listing.{EndsListing}
use Rattle.rtcm_inspect.specs.OptionOutput.{AreOptionsOf, AreOptionsRefused}
use Rattle.rtcm_inspect.specs.ShowLines.{show_lines}
use Rattle.rtcm_inspect.specs.Signals.{AreSignalsOf, AreSignalsRefused}
use Rattle.rtcm_inspect.specs.StreamOutput.{EndsStream}
use Rattle.rinex_inspect.specs.Checking.{EndsCheck}
use Rattle.rinex_inspect.specs.Quality.{EndsQuality}
use Rattle.rtcm_command.specs.Converting.{IsConverted, StopsConverting}
use Rattle.command_line.specs.CommandLine.{SelectsCommand, FailsParsing, version_line}
use Rattle.command_line.specs.inner.CommandLine.{IsCommand}
use Rattle.rtcm_command.specs.Devices.{culprit}
use Rattle.command_faults.specs.ErrorLines.{error_line}
use Rattle.command_faults.specs.Status.{fault_status}
use Rattle.rtcm_command.specs.SetupOptions.{IsNumberOf, IsSetupRefused, IsSourceRefused, IsSourceSet, IsEverySet}
use Rattle.rtcm_command.specs.SetupOptions.{has_flag}
use Rattle.rtcm_command.specs.CompleteOptions.{IsCompleteSet}
use Rattle.rtcm_inspect.specs.declared.printed_week.WeekSource.{WeekSource}
use Rattle.rtcm_inspect.specs.declared.fault.InspectFault.{InspectFault}
use Rattle.rtcm_inspect.specs.declared.fault.InspectFault.TheVariants as inspect
use Rattle.rinex_inspect.specs.declared.fault.FileFault.{FileFault}
use Rattle.rinex_inspect.specs.Gaps.{Completeness}
use Rattle.command_faults.specs.declared.fault.CommandFault.{CommandFault}
use Rattle.command_faults.specs.declared.fault.CommandFault.TheVariants as faults

-- for the station that these options give, or for all stations
abbrev pub OfStation : List Row → (Option ℕ → Type 0) → Type 0
OfStation options Does = (wanted : Option ℕ) × IsNumberOf 16 (one_of (codes "station") options) wanted × Does wanted

-- How a command that reads a stream and doesn't convert it ended with these options: the stream was listed, or its
-- signals or the options that fit it were printed.
abbrev pub EndsInspection : {R W : Type 0} → Result ⊤ InspectFault → Text → List Row → (d d' : Devices R W) → Type 0
EndsInspection result name options d d' =
    ((name ≡ codes "frames") × EndsListing result most_bytes frame_lines d d')
    ⊎ ((name ≡ codes "show") × EndsListing result most_bytes (show_lines (has_flag (codes "all") options)) d d')
    ⊎ ((name ≡ codes "signals")
    × OfStation options (λ wanted. EndsStream result (AreSignalsOf wanted) (AreSignalsRefused wanted) d d'))
    ⊎ ((name ≡ codes "options")
    × OfStation options (λ wanted. (source : WeekSource) × IsSourceSet options source
    × EndsStream result (AreOptionsOf source wanted) (AreOptionsRefused source wanted) d d'))

-- how a command that reads a file ended with these options: the file was read back, or its values were counted
abbrev pub EndsOnFile : {R W : Type 0} → Result ⊤ FileFault → Text → List Row → (d d' : Devices R W) → Type 0
EndsOnFile result name options d d' =
    ((name ≡ codes "check") × ((complete : Option Completeness) × IsCompleteSet options (Ok complete)
    × EndsCheck (record { complete = complete; times = has_flag (codes "times") options }) result d d'))
    ⊎ ((name ≡ codes "quality")
    × ((every : Option ℕ) × IsEverySet options (Ok every) × EndsQuality every result d d'))

-- the options of a command that reads a file are refused with this fault
abbrev pub AreFileOptionsRefused : Text → List Row → CommandFault → Type 0
AreFileOptionsRefused name options fault =
    ((name ≡ codes "check") × IsCompleteSet options (Err fault))
    ⊎ ((name ≡ codes "quality") × IsEverySet options (Err fault))

-- The command of this name completed: the file of the stream was written, which has an epoch, and its report was
-- printed; or any other command, and nothing was written to standard error.
abbrev pub HasDone : {R W E : Type 0} → Text → List Row → (e e' : Writer E) → (d d' : Devices R W) → Type 0
HasDone name options e e' d d' =
    ((name ≡ codes "convert") × IsConverted options d d' e e')
    ⊎ ((EndsInspection (Ok tt) name options d d' ⊎ EndsOnFile (Ok tt) name options d d') × (e' ≡ e))

-- The command was stopped by a fault, or it was refused for the date, the two options or an interval, and nothing was
-- read or written.
abbrev pub HasStopped : {R W : Type 0} → Text → List Row → (d d' : Devices R W) → CommandFault → Type 0
HasStopped name options d d' fault =
    ((name ≡ codes "convert") × StopsConverting options d d' fault)
    ⊎ ((e : InspectFault) × (fault ≡ faults.Inspect e) × EndsInspection (Err e) name options d d')
    ⊎ ((e : FileFault) × (fault ≡ faults.File e) × EndsOnFile (Err e) name options d d')
    ⊎ ((name ≡ codes "options") × IsSourceRefused options fault × AreUntouched d d')
    ⊎ (AreFileOptionsRefused name options fault × AreUntouched d d')

-- how the command ended; it prints no fault
abbrev pub EndsCommand : {A R W E : Type 0} → Result A CommandFault → Text → List Row → (e e' : Writer E)
    → (d d' : Devices R W) → Type 0
EndsCommand result name options e e' d d' =
    Ends culprit result d d' (λ _. HasDone name options e e' d d')
    (λ fault. HasStopped name options d d' fault × (e' ≡ e))

-- a command of the program was found in words
abbrev pub HasCommand : ArgMatches → Type 0
HasCommand m = (name : Text) × (options : List Row) × IsCommand name × (subcommand_rows_of m ≡ Some (name, options))

-- how the command that was found ended
abbrev pub EndsFound : {A R W E : Type 0} → Result A CommandFault → Option (Text × List Row) → (e e' : Writer E)
    → (d d' : Devices R W) → Type 0
EndsFound result found e e' d d' = (name : Text) × (options : List Row) × (found ≡ Some (name, options))
    × EndsCommand result name options e e' d d'

-- ---- the exit status

-- The command that the words ask for completed with the options that they give; or they ask for the version, which was
-- written, and nothing was written to standard error.
abbrev pub HasCompleted : {R W E : Type 0} → List Text → (e e' : Writer E) → (d d' : Devices R W) → Type 0
HasCompleted words e e' d d' =
    ((name : Text) × (options : List Row) × SelectsCommand words name options × AreFine d d'
    × HasDone name options e e' d d')
    ⊎ (FailsParsing words DisplayVersion × (d'.reader ≡ d.reader) × PrintsText version_line d.writer d'.writer
    × (e' ≡ e))

-- The command that the words ask for was stopped by a fault, or the writer failed in the output of the version, and the
-- line of that fault was printed; or memory ran out before anything was read or written, and the line of `Memory` was
-- printed.
abbrev pub HasStoppedEarly : {R W E : Type 0} → List Text → (e e' : Writer E) → (d d' : Devices R W) → Type 0
HasStoppedEarly words e e' d d' =
    ((name : Text) × (options : List Row) × (fault : CommandFault) × SelectsCommand words name options
    × (fault_status fault ≡ 1) × HaveFailedBy (culprit fault) d d'
    × HasStopped name options d d' fault × PrintsLine (error_line fault) e e')
    ⊎ (FailsParsing words DisplayVersion × (d'.reader ≡ d.reader) × PrintsPart version_line d.writer d'.writer
    × PrintsLine (error_line (faults.Inspect inspect.Write)) e e')
    ⊎ (AreUntouched d d' × PrintsLine (error_line faults.Memory) e e')

-- Memory ran out and nothing was written, or the version's text was written in part. The line of that fault was printed.
abbrev pub StopsPrinting : {W E : Type 0} → ErrorKind → (e e' : Writer E) → (w w' : Writer W) → Type 0
StopsPrinting k e e' w w' =
    ((k ≡ OutOfMemory) × (w'.device ≡ w.device) × PrintsLine (error_line faults.Memory) e e')
    ⊎ ((k ≡ DisplayVersion) × PrintsPart version_line w w'
    × PrintsLine (error_line (faults.Inspect inspect.Write)) e e')

-- what is printed of words that are refused: this text, or the line of `Memory` without one
abbrev pub refusal_line : Option (List ℕ) → List ℕ
refusal_line None = error_line faults.Memory
refusal_line (Some text) = text

-- these options of a command are refused with this fault
abbrev pub AreRefusedBy : Text → List Row → CommandFault → Type 0
AreRefusedBy name options fault =
    ((name ≡ codes "convert") × IsSetupRefused options fault)
    ⊎ ((name ≡ codes "options") × IsSourceRefused options fault)
    ⊎ AreFileOptionsRefused name options fault

-- The words lead to an error other than the version's text, and a text was printed; or they ask for a command of which
-- an option is missing, excludes another one, or has an invalid value, and the line of that fault was printed.
abbrev pub AreRefused : {E : Type 0} → List Text → (e e' : Writer E) → Type 0
AreRefused words e e' =
    ((k : ErrorKind) × FailsParsing words k × (k ≡ DisplayVersion → ⊥) × PrintsSome e e')
    ⊎ ((name : Text) × (options : List Row) × (fault : CommandFault) × SelectsCommand words name options
    × AreRefusedBy name options fault × (fault_status fault ≡ 2) × PrintsLine (error_line fault) e e')
