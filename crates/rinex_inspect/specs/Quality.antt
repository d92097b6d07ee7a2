-- What the command `quality` has read and written: the devices were d and are d'.
use Rattle.std.specs.Prelude.{◌≡◌, ◌≢◌, ◌⊎◌, ◌≤◌, ℕ, List, [], length, Option, Result, Ok, Err, IfSome, ⊤}
use Rattle.std.specs.Io.KnownBytes.{Appends, Keeps}
use Rattle.devices.specs.Device.{AppendsPrefix}
use Rattle.devices.specs.Devices.{Devices, Ends}
use Rattle.devices.specs.Printing.{IsUnread}
use Rattle.gnss_obs.specs.Values.{PlanValue}
use Rattle.rinex_file.specs.Accepted.{AreEpochsBefore, AreEpochsRead, AreFirstEpochs, HasPlan}
use Rattle.rinex_file.specs.Exact.{ExplainsFault, most_lines}
use Rattle.rinex_file.specs.File.{file_lines, file_text}
use Rattle.rinex_file.specs.FileValues.{IsFileValue}
use Rattle.rinex_file.specs.Value.{FileValue, Stamped}
use Rattle.rinex_file.specs.declared.read.fault.ReadFault.TheVariants as reading
use Rattle.rinex_inspect.specs.Faults.{culprit}
use Rattle.rinex_inspect.specs.QualityOutput.{lines_before, quality_output}
use Rattle.rinex_inspect.specs.declared.fault.FileFault.{FileFault}
use Rattle.rinex_inspect.specs.declared.fault.FileFault.TheVariants as faults

-- the reader had the text of a file value, and Writes holds for its output
abbrev pub IsRatedFile : Option ℕ → (List ℕ → Type 0) → (unread : Option (List ℕ)) → Type 0
IsRatedFile every Writes unread =
    (v : FileValue) × IsFileValue v × IfSome unread (λ input. input ≡ file_text v) × Writes (quality_output every v)

-- the input begins with a header of this plan, if it has one of these epochs
abbrev pub IsPlanBefore : PlanValue → List Stamped → Option (List ℕ) → Type 0
IsPlanBefore plan es unread = es ≢ [] → IfSome unread (HasPlan plan)

-- A file isn't rated for this reason. Memory ran out before anything was read; or the lines of the periods before that
-- of the last whole epoch before the fault were written, and nothing waits in the writer. At a failed read these are all
-- epochs in the bytes that were read. Or the writer failed, before anything was read, in the lines of such periods, or
-- in the output of a file.
abbrev pub StopsQuality : {R W : Type 0} → Option ℕ → (d d' : Devices R W) → FileFault → Type 0
StopsQuality every d d' (faults.File e) =
    ((e ≡ reading.Memory) × IsUnread d d' × (d'.writer.waiting ≡ []))
    ⊎ ((es : List Stamped) × (plan : PlanValue) × IsPlanBefore plan es d.reader.unread
    × IfSome d.reader.unread (λ input. ExplainsFault input e × AreEpochsBefore es e input)
    × (e ≡ reading.Read → AreEpochsRead es d.reader.unread d'.reader.unread)
    × Appends d.writer.written d'.writer.written (lines_before plan every es) × (d'.writer.waiting ≡ []))
StopsQuality every d d' (faults.OtherDay k) = ⊥
StopsQuality every d d' faults.Write =
    IsUnread d d'
    ⊎ ((es : List Stamped) × (plan : PlanValue) × (n : ℕ) × IsPlanBefore plan es d.reader.unread
    × IfSome d.reader.unread (AreFirstEpochs es n)
    × AppendsPrefix d.writer.written d'.writer.written (lines_before plan every es))
    ⊎ IsRatedFile every (AppendsPrefix d.writer.written d'.writer.written) d.reader.unread

-- how the command ended
abbrev pub EndsQuality : {A R W : Type 0} → Option ℕ → Result A FileFault → (d d' : Devices R W) → Type 0
EndsQuality every result d d' = Ends culprit result d d'
    (λ _. IsRatedFile every (Appends d.writer.written d'.writer.written) d.reader.unread) (StopsQuality every d d')

-- The possible outcomes for the text of this file value: its output, unless memory runs out or a device fails. A writer
-- that fails has accepted nothing or a prefix.
abbrev pub IsRatedOr : Option ℕ → FileValue → Result ⊤ FileFault → (w w' : Option (List ℕ)) → Type 0
IsRatedOr every v (Ok u) w w' = Appends w w' (quality_output every v)
IsRatedOr every v (Err faults.Write) w w' = Keeps w w' ⊎ AppendsPrefix w w' (quality_output every v)
IsRatedOr every v (Err (faults.File reading.Memory)) w w' = ⊤
IsRatedOr every v (Err (faults.File reading.Read)) w w' = ⊤
IsRatedOr every v (Err other) w w' = ⊥

-- the text of each file value is accepted
abbrev pub RatesFiles : {R W : Type 0} → Option ℕ → Result ⊤ FileFault → (d d' : Devices R W) → Type 0
RatesFiles every result d d' = (v : FileValue) → IsFileValue v → length (file_lines v) ≤ most_lines
    → IfSome d.reader.unread (λ input. input ≡ file_text v
    → IsRatedOr every v result d.writer.written d'.writer.written)
