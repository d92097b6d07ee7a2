-- The reading of a file and the writing of the lines of its periods: the devices were d and are d'.
use Rattle.std.specs.Prelude.{◌≡◌, ◌≢◌, ℕ, ◌*◌, ◌<◌, ◌≤◌, List, [], ◌∷◌, ◌++◌, length, Option, Some, None, Result, Ok}
use Rattle.std.specs.Prelude.{Err, IfSome, ⊤}
use Rattle.devices.specs.Devices.{Devices, ReaderFailures}
use Rattle.devices.specs.Printing.{PrintsPart, PrintsText}
use Rattle.gnss_obs.specs.Intervals.{IsInterval}
use Rattle.gnss_obs.specs.Values.{PlanValue}
use Rattle.rinex_file.specs.Accepted.{AreEpochsBefore, AreEpochsRead, AreFirstEpochs}
use Rattle.rinex_file.specs.Counting.{AreCounts, IsTextWith}
use Rattle.rinex_file.specs.Exact.{ExplainsFault, IfTextOfFile, IsNoFault}
use Rattle.rinex_file.specs.File.{file_text}
use Rattle.rinex_file.specs.FileValues.{IsFileValue}
use Rattle.rinex_file.specs.Value.{FileValue, Stamped}
use Rattle.rinex_file.specs.declared.read.epochs.EpochReader.{EpochReader}
use Rattle.rinex_file.specs.declared.read.fault.ReadFault.TheVariants as reading
use Rattle.rinex_file.specs.declared.read.file.Counts.{Counts}
use Rattle.rinex_file.specs.inner.Read.EpochSteps.{HasReadEpochs, KeepsPlan, plan_of}
use Rattle.rinex_file.specs.inner.Read.Steps.{StopsReading}
use Rattle.rinex_inspect.specs.CheckOutput.{check_line}
use Rattle.rinex_inspect.specs.Faults.{culprit}
use Rattle.rinex_inspect.specs.Quality.{IsPlanBefore}
use Rattle.rinex_inspect.specs.QualityOutput.{in_period, last_period, lines_before, quality_output}
use Rattle.rinex_inspect.specs.declared.fault.FileFault.{FileFault}
use Rattle.rinex_inspect.specs.declared.fault.FileFault.TheVariants as faults
use Rattle.rinex_inspect.specs.declared.quality.Tables.{Tables}
use Rattle.rinex_inspect.specs.declared.quality_lines.Lines.TheVariants.{Signals, Satellites, Period}
use Rattle.rinex_inspect.specs.declared.table.Table.{Table}
use Rattle.rinex_inspect.specs.inner.QualityLines.{IsPrintable, all_lines}
use Rattle.rinex_inspect.specs.inner.Tables.{IsBlankTable, IsTableOf, contents_in}

-- the tables are those of the last period of these epochs, of periods of this length, and of no epoch
pub record AreTables (every : Option ℕ) (t : Tables) (es : List Stamped) : Type 0 where
  pub interval : IfSome every IsInterval
  pub period : t.period ≡ last_period every es
  pub current : IsTableOf t.current (in_period every (last_period every es) es)
  pub next : IsBlankTable t.next

-- an epoch at this time, of which no satellite was read
abbrev pub IsStart : ℕ → Stamped → Type 0
IsStart time e = (e.time ≡ time) × (e.rows ≡ [])

-- the epoch is whole, and was added to the epochs of a table; or there is a fault
abbrev pub ReadsRows : (old new : EpochReader) → (t t' : Table) → List Stamped → (time : ℕ)
    → (input left : Option (List ℕ)) → Result ⊤ FileFault → Type 0
ReadsRows old new t t' es time input left (Ok u) =
    (whole : Stamped) × (whole.time ≡ time) × HasReadEpochs new (es ++ whole ∷ []) input left
    × IfSome input (AreFirstEpochs (es ++ whole ∷ []) new.count) × (old.count ≤ new.count)
    × (plan_of new ≡ plan_of old)
    × ((xs : List Stamped) → length xs ≤ length es → IsTableOf t xs → IsTableOf t' (xs ++ whole ∷ []))
ReadsRows old new t t' es time input left (Err (faults.File e)) = StopsReading es input left e
ReadsRows old new t t' es time input left (Err other) = ⊥

-- what is printed when an epoch follows others
abbrev pub IsPrintedAfter : Option ℕ → PlanValue → List Stamped → Stamped → List ℕ → Type 0
IsPrintedAfter every plan es whole text =
    lines_before plan every (es ++ whole ∷ []) ≡ lines_before plan every es ++ text

-- the epoch is whole, and the lines of an earlier period were written; or there is a fault, or the writer failed in them
abbrev pub RatesEpoch : {R W : Type 0} → Option ℕ → (old new : EpochReader) → (t' : Tables) → List Stamped
    → (time : ℕ) → (input : Option (List ℕ)) → Result ⊤ FileFault → (d d' : Devices R W) → Type 0
RatesEpoch every old new t' es time input (Ok u) d d' =
    (whole : Stamped) × (whole.time ≡ time) × HasReadEpochs new (es ++ whole ∷ []) input d'.reader.unread
    × (old.count ≤ new.count) × (plan_of new ≡ plan_of old) × AreTables every t' (es ++ whole ∷ [])
    × ((text : List ℕ) × IsPrintedAfter every (plan_of new) es whole text × PrintsText text d.writer d'.writer)
RatesEpoch every old new t' es time input (Err (faults.File e)) d d' =
    StopsReading es input d'.reader.unread e × (d'.writer ≡ d.writer)
RatesEpoch every old new t' es time input (Err (faults.OtherDay k)) d d' = ⊥
RatesEpoch every old new t' es time input (Err faults.Write) d d' =
    (whole : Stamped) × HasReadEpochs new (es ++ whole ∷ []) input d'.reader.unread
    × IfSome input (AreFirstEpochs (es ++ whole ∷ []) new.count) × (plan_of new ≡ plan_of old)
    × ((text : List ℕ) × IsPrintedAfter every (plan_of new) es whole text × PrintsPart text d.writer d'.writer)

-- the file has these epochs, these counts and this plan
abbrev pub IsRated : List Stamped → Counts → PlanValue → FileValue → Type 0
IsRated es n plan v = AreCounts n v × (v.epochs ≡ es) × (v.plan ≡ plan)

-- one epoch more is whole, and the lines of an earlier period were written; or the file ends; or there is a fault, or
-- the writer failed in these lines
abbrev pub RatesNext : {R W : Type 0} → Option ℕ → (old new : EpochReader) → (t t' : Tables) → List Stamped
    → (input : Option (List ℕ)) → Result (Option Counts) FileFault → (d d' : Devices R W) → Type 0
RatesNext every old new t t' es input (Ok None) d d' =
    (whole : Stamped) × HasReadEpochs new (es ++ whole ∷ []) input d'.reader.unread
    × (old.count < new.count) × KeepsPlan old new es × AreTables every t' (es ++ whole ∷ [])
    × ((text : List ℕ) × IsPrintedAfter every (plan_of new) es whole text × PrintsText text d.writer d'.writer)
RatesNext every old new t t' es input (Ok (Some n)) d d' =
    IsTextWith (IsRated es n (plan_of new)) input × IfTextOfFile input (IsRated es n (plan_of new))
    × KeepsPlan old new es × (t' ≡ t) × (d'.writer ≡ d.writer)
RatesNext every old new t t' es input (Err (faults.File e)) d d' =
    StopsReading es input d'.reader.unread e × (d'.writer ≡ d.writer)
RatesNext every old new t t' es input (Err (faults.OtherDay k)) d d' = ⊥
RatesNext every old new t t' es input (Err faults.Write) d d' =
    (whole : Stamped) × HasReadEpochs new (es ++ whole ∷ []) input d'.reader.unread
    × IfSome input (AreFirstEpochs (es ++ whole ∷ []) new.count) × KeepsPlan old new es
    × ((text : List ℕ) × IsPrintedAfter every (plan_of new) es whole text × PrintsPart text d.writer d'.writer)

-- each file value with this text has this plan, if the input has one of these epochs
abbrev pub HasOnePlan : PlanValue → List Stamped → Option (List ℕ) → Type 0
HasOnePlan plan es unread =
    es ≢ [] → IfSome unread (λ input. (v : FileValue) → IsFileValue v → input ≡ file_text v → v.plan ≡ plan)

-- what is printed of the tables of a period; and at the end of a file
abbrev pub period_text : Option ℕ → PlanValue → Table → (period : ℕ) → List ℕ
period_text None plan t period = []
period_text (Some n) plan t period = all_lines (Period (period * n)) plan (contents_in t)

abbrev pub whole_text : PlanValue → Table → FileValue → List ℕ
whole_text plan t v =
    check_line v ++ all_lines Signals plan (contents_in t) ++ all_lines Satellites plan (contents_in t)

abbrev pub end_text : Option ℕ → PlanValue → Tables → FileValue → List ℕ
end_text None plan t v = whole_text plan t.current v
end_text (Some n) plan t v = period_text (Some n) plan t.current t.period

-- The lines of all periods but the last were written; or of those before a fault; or the writer failed in them.
abbrev pub RatesPeriods : {R W : Type 0} → Option ℕ → EpochReader → Tables → Result Counts FileFault
    → (d d' : Devices R W) → Type 0
RatesPeriods every new t' (Ok n) d d' =
    (es : List Stamped) × IsTextWith (IsRated es n (plan_of new)) d.reader.unread
    × IfTextOfFile d.reader.unread (IsRated es n (plan_of new))
    × AreTables every t' es × PrintsText (lines_before (plan_of new) every es) d.writer d'.writer
    × (d'.reader.device.failures ≡ d.reader.device.failures) × IsPrintable t'.current (plan_of new)
    × ((v : FileValue) → IsRated es n (plan_of new) v
    → quality_output every v ≡ lines_before (plan_of new) every es ++ end_text every (plan_of new) t' v)
RatesPeriods every new t' (Err (faults.File e)) d d' =
    (es : List Stamped) × (plan : PlanValue) × IsPlanBefore plan es d.reader.unread
    × IfSome d.reader.unread (λ input. ExplainsFault input e × AreEpochsBefore es e input)
    × IfTextOfFile d.reader.unread (λ v. IsNoFault e)
    × (e ≡ reading.Read → AreEpochsRead es d.reader.unread d'.reader.unread)
    × PrintsText (lines_before plan every es) d.writer d'.writer
    × ReaderFailures (culprit (faults.File e)) d.reader.device.failures d'.reader.device.failures
RatesPeriods every new t' (Err (faults.OtherDay k)) d d' = ⊥
RatesPeriods every new t' (Err faults.Write) d d' =
    (es : List Stamped) × (plan : PlanValue) × (n : ℕ) × IsPlanBefore plan es d.reader.unread
    × HasOnePlan plan es d.reader.unread × IfSome d.reader.unread (AreFirstEpochs es n)
    × PrintsPart (lines_before plan every es) d.writer d'.writer
    × (d'.reader.device.failures ≡ d.reader.device.failures)
