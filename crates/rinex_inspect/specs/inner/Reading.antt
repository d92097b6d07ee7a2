-- The reading of a file and the writing of its gaps: the devices were d and are d'.
use Rattle.std.specs.Prelude.{◌≡◌, ◌++◌, ℕ, [], List, Option, Result, Ok, Err, IfSome, is_some, true}
use Rattle.devices.specs.Devices.{Devices, ReaderFailures, Writer}
use Rattle.devices.specs.Printing.{EndsPrinting, PrintsPart, PrintsText}
use Rattle.rinex_file.specs.Accepted.{AreFirstEpochs}
use Rattle.rinex_file.specs.Counting.{IsTextWith}
use Rattle.rinex_file.specs.Exact.{IfTextOfFile}
use Rattle.rinex_file.specs.Value.{FileValue, Stamped}
use Rattle.rinex_file.specs.declared.read.times.EpochTimes.{EpochTimes}
use Rattle.rinex_file.specs.declared.read.epochs.EpochReader.{EpochReader}
use Rattle.rinex_file.specs.declared.read.file.FileSummary.{FileSummary}
use Rattle.rinex_file.specs.inner.Read.EpochSteps.{IsSummaryRead}
use Rattle.rinex_file.specs.inner.Read.Steps.{StopsReading}
use Rattle.rinex_inspect.specs.CheckOutput.{all_gaps_if, check_line, complete_if, gaps_if, times_if, times_in}
use Rattle.rinex_inspect.specs.Checking.{IsNextInside, IsOtherDay}
use Rattle.rinex_inspect.specs.Faults.{culprit}
use Rattle.rinex_inspect.specs.Gaps.{AreInside, Completeness}
use Rattle.rinex_inspect.specs.declared.check.CheckOptions.{CheckOptions}
use Rattle.rinex_inspect.specs.declared.fault.FileFault.{FileFault}
use Rattle.rinex_inspect.specs.declared.fault.FileFault.TheVariants as faults
use Rattle.rinex_inspect.specs.inner.Missing.{Rise, missing_if}

-- if nothing waited in the writer, this text was written, or a part of it at a fault
abbrev pub PrintsIfSent : {A W : Type 0} → Result A FileFault → List ℕ → (w w' : Writer W) → Type 0
PrintsIfSent result text w w' = w.waiting ≡ [] → EndsPrinting faults.Write result text w w'

-- this number of places is missing before the epochs at these times, which rise
abbrev pub CountsMissing : Option Completeness → List ℕ → ℕ → Type 0
CountsMissing complete ts n = Rise 0 ts → n ≡ missing_if complete ts

-- The gaps of all epochs were written; or of those before a fault; or the writer failed in those of the first epochs.
abbrev pub ReadsGaps : {R W : Type 0} → EpochReader → Result (FileSummary × ℕ) FileFault → Option Completeness
    → (d d' : Devices R W) → Type 0
ReadsGaps r (Ok (s, missing)) complete d d' =
    (es : List Stamped) × IsTextWith (IsSummaryRead r es s) d.reader.unread
    × IfTextOfFile d.reader.unread (IsSummaryRead r es s)
    × PrintsText (gaps_if complete (times_in es)) d.writer d'.writer
    × (d'.reader.device.failures ≡ d.reader.device.failures)
    × CountsMissing complete (times_in es) missing × AreInside complete (times_in es)
ReadsGaps r (Err (faults.File e)) complete d d' =
    (es : List Stamped) × StopsReading es d.reader.unread d'.reader.unread e
    × PrintsText (gaps_if complete (times_in es)) d.writer d'.writer
    × ReaderFailures (culprit (faults.File e)) d.reader.device.failures d'.reader.device.failures
    × AreInside complete (times_in es) × IfSome d.reader.unread (IsNextInside complete es e)
ReadsGaps r (Err (faults.OtherDay k)) complete d d' =
    (es : List Stamped) × IfSome d.reader.unread (IsOtherDay complete es k)
    × PrintsText (gaps_if complete (times_in es)) d.writer d'.writer
    × (d'.reader.device.failures ≡ d.reader.device.failures)
ReadsGaps r (Err faults.Write) complete d d' =
    (es : List Stamped) × (n : ℕ) × (is_some complete ≡ true) × IfSome d.reader.unread (AreFirstEpochs es n)
    × PrintsPart (gaps_if complete (times_in es)) d.writer d'.writer
    × (d'.reader.device.failures ≡ d.reader.device.failures) × AreInside complete (times_in es)

-- what is written at the end of a file, after the gaps before and between its epochs
abbrev pub IsEndOutput : CheckOptions → FileValue → EpochTimes → List ℕ → Type 0
IsEndOutput o v t text = all_gaps_if o.complete (times_in v.epochs)
    ++ ((check_line v ++ times_if o.times t) ++ complete_if o.complete (times_in v.epochs) t)
    ≡ gaps_if o.complete (times_in v.epochs) ++ text
