-- The lines of errors, on standard error. They agree with the manual page.
use Rattle.std.specs.Prelude.{ℕ, List, [], ◌∷◌, codes, decimal}
use Rattle.rtcm_convert.specs.declared.fault.Fault.{Fault}
use Rattle.rtcm_convert.specs.declared.fault.Fault.TheVariants as convert
use Rattle.rtcm_inspect.specs.FaultWords.{header_words, inspection_words, plan_words}
use Rattle.rinex_inspect.specs.Faults.{file_words}
use Rattle.line_texts.specs.Lines.{line}
use Rattle.command_faults.specs.declared.fault.DateOption.{DateOption}
use Rattle.command_faults.specs.declared.fault.DateOption.TheVariants as dated
use Rattle.command_faults.specs.declared.fault.CommandFault.{CommandFault}
use Rattle.command_faults.specs.declared.fault.CommandFault.TheVariants as faults

abbrev pub conversion_word : Fault → List ℕ
conversion_word convert.Memory = codes "Memory"
conversion_word convert.BadSetup = codes "BadSetup"
conversion_word convert.TooLong = codes "TooLong"
conversion_word convert.Read = codes "Read"
conversion_word convert.Write = codes "Write"
conversion_word convert.Failed = codes "Failed"
conversion_word convert.Finished = codes "Finished"
conversion_word convert.NoEpoch = codes "NoEpoch"
conversion_word (convert.NoneChosen counts) = codes "NoneChosen"

-- the numbers after the name, each after its own
abbrev pub conversion_counts : Fault → List (List ℕ)
conversion_counts (convert.NoneChosen counts) =
    codes "epochs" ∷ decimal counts.epochs ∷ codes "window" ∷ decimal counts.window
    ∷ codes "grid" ∷ decimal counts.grid ∷ []
conversion_counts other = []

-- the forms of a time
abbrev pub time_form : List (List ℕ)
time_form = codes "a date yyyy-mm-dd or a time yyyy-mm-ddThh:mm:ss," ∷ codes "1980-01-06 to 3896-07-18" ∷ []

-- an option with a date, and the forms that it accepts
abbrev pub date_words : DateOption → List (List ℕ)
date_words dated.Week =
    codes "--week WEEK: a GPS week, 0 to 99999," ∷ codes "or a date yyyy-mm-dd, 1980-01-06 to 3896-07-18" ∷ []
date_words dated.Near = codes "--near DATE: a date yyyy-mm-dd, 1980-01-06 to 3896-07-18" ∷ []
date_words dated.From = codes "--from TIME:" ∷ time_form
date_words dated.Until = codes "--until TIME:" ∷ time_form

-- the name of an error, and its parameters or the accepted form
abbrev pub error_words : CommandFault → List (List ℕ)
error_words faults.Memory = codes "Memory" ∷ []
error_words faults.OneOf = codes "OneOf" ∷ codes "--week WEEK, --near DATE: one of them" ∷ []
error_words (faults.BadDate option) = codes "BadDate" ∷ date_words option
error_words faults.BadPosition =
    codes "BadPosition" ∷ codes "--position X,Y,Z: metres, up to 8 digits and 4 decimals each,"
    ∷ codes "-13743895.3472 to 13743895.3471" ∷ []
error_words faults.BadHeight =
    codes "BadHeight" ∷ codes "--antenna-height HEIGHT: metres, up to 4 decimals, 0 to 6.5535" ∷ []
error_words faults.BadChannels =
    codes "BadChannels" ∷ codes "--glonass-channels SLOT:CHANNEL,..: slots 1 to 27, each once,"
    ∷ codes "channels -7 to 6" ∷ []
error_words faults.BadWindow = codes "BadWindow" ∷ codes "--until TIME: later than --from" ∷ []
error_words faults.BadInterval =
    codes "BadInterval" ∷ codes "--interval SECONDS: up to 3 decimals, 0.1 to 86400," ∷ codes "a divisor of a day" ∷ []
error_words faults.BadTolerance =
    codes "BadTolerance" ∷ codes "--tolerance SECONDS: up to 3 decimals, 0 to 0.5,"
    ∷ codes "at most half of --interval" ∷ []
error_words faults.BadGaps = codes "BadGaps" ∷ codes "--gaps SECONDS: up to 3 decimals, 0.001 to 86400" ∷ []
error_words faults.BadEvery =
    codes "BadInterval" ∷ codes "--every SECONDS: up to 3 decimals, 1 to 86400," ∷ codes "a divisor of a day" ∷ []
error_words faults.AllOf = codes "AllOf" ∷ codes "--gaps SECONDS, --from TIME, --until TIME: all of them" ∷ []
error_words faults.BadGapsWindow = codes "BadWindow" ∷ codes "--until TIME: whole intervals after --from" ∷ []
error_words (faults.Header e) = header_words e
error_words (faults.Plan e) = plan_words e
error_words (faults.Convert e) = conversion_word e ∷ conversion_counts e
error_words (faults.Inspect e) = inspection_words e
error_words (faults.File e) = file_words e

-- the line of an error
unfoldable pub error_line : CommandFault → List ℕ
error_line fault = line (codes "rtcm2rinex:" ∷ error_words fault)

-- the line of a command line that is not UTF-8
abbrev pub not_text_line : List ℕ
not_text_line = line (codes "error: a word of the command line isn't UTF-8" ∷ [])
