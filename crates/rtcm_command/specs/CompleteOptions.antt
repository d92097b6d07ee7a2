-- What the options `--gaps`, `--from` and `--until` of `check` give.
use Rattle.std.specs.Prelude.{◌≡◌, ◌==◌, ◌-◌, ◌%◌, nat_lt, ℕ, List, Bool, true, false, ◌&&◌, ◌||◌, not, codes, is_some}
use Rattle.std.specs.Prelude.{if◌then◌else◌, Option, Some, None, Result, Ok, Err}
use Rattle.clap.specs.Walk.{Row, first_of}
use Rattle.rinex_inspect.specs.Gaps.{Completeness}
use Rattle.rinex_inspect.specs.declared.gaps.Window.{Window}
use Rattle.command_faults.specs.declared.fault.CommandFault.{CommandFault}
use Rattle.command_faults.specs.declared.fault.CommandFault.TheVariants as faults
use Rattle.rtcm_command.specs.SetupOptions.{IsFromSet, IsGapsSet, IsUntilSet}

-- the option of this name is given
abbrev pub is_given : List ℕ → List Row → Bool
is_given name options = is_some (first_of name options)

-- a begin or an end is given, but not both and the interval
abbrev pub lacks_one : List Row → Bool
lacks_one options = (is_given (codes "from") options || is_given (codes "until") options)
    && not (is_given (codes "from") options && is_given (codes "until") options && is_given (codes "gaps") options)

-- the window from a time until one that is a whole number of intervals later, or the fault of another one
abbrev pub whole_window : (interval from until : ℕ) → Result (Option Window) CommandFault
whole_window interval from until =
    if nat_lt from until && ((until - from) % interval == 0) then Ok (Some (record { from = from; until = until }))
    else Err faults.BadGapsWindow

-- the window of these times, or the fault of the first one that has one
abbrev pub window_with : (interval : ℕ) → (from until : Result (Option ℕ) CommandFault)
    → Result (Option Window) CommandFault
window_with interval (Err e) until = Err e
window_with interval (Ok from) (Err e) = Err e
window_with interval (Ok (Some from)) (Ok (Some until)) = whole_window interval from until
window_with interval (Ok from) (Ok until) = Ok None

abbrev pub IsWindowOf : (interval : ℕ) → List Row → Result (Option Window) CommandFault → Type 0
IsWindowOf interval options window = (from until : Result (Option ℕ) CommandFault)
    × IsFromSet options from × IsUntilSet options until × (window ≡ window_with interval from until)

abbrev pub complete_with : (interval : ℕ) → Result (Option Window) CommandFault
    → Result (Option Completeness) CommandFault
complete_with interval (Err e) = Err e
complete_with interval (Ok window) = Ok (Some (record { interval = interval; window = window }))

-- what makes the file complete, if an interval is given; or a fault: that one of the options lacks, or else that of the
-- interval, of the begin, of the end, or of the window
abbrev pub IsCompleteBy : Bool → Result (Option ℕ) CommandFault → List Row
    → Result (Option Completeness) CommandFault → Type 0
IsCompleteBy true gaps options complete = complete ≡ Err faults.AllOf
IsCompleteBy false (Err e) options complete = complete ≡ Err e
IsCompleteBy false (Ok None) options complete = complete ≡ Ok None
IsCompleteBy false (Ok (Some interval)) options complete = (window : Result (Option Window) CommandFault)
    × IsWindowOf interval options window × (complete ≡ complete_with interval window)

abbrev pub IsCompleteSet : List Row → Result (Option Completeness) CommandFault → Type 0
IsCompleteSet options complete = (gaps : Result (Option ℕ) CommandFault) × IsGapsSet options gaps
    × IsCompleteBy (lacks_one options) gaps options complete
