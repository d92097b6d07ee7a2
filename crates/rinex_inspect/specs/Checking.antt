-- What the command `check` has read and written: the devices were d and are d'.
use Rattle.std.specs.Prelude.{◌≡◌, ◌⊎◌, ◌≤◌, ℕ, List, [], length, Option, Result, is_some, true, false, Ok, Err, IfSome}
use Rattle.std.specs.Prelude.{⊤}
use Rattle.std.specs.Io.KnownBytes.{Appends, Keeps}
use Rattle.devices.specs.Device.{AppendsPrefix}
use Rattle.devices.specs.Devices.{Devices, Ends}
use Rattle.rinex_file.specs.Accepted.{AreEpochsBefore, AreEpochsRead, AreFirstEpochs, AreWholeBefore, IsEpochLine}
use Rattle.rinex_file.specs.Blocks.{LeavesRest}
use Rattle.rinex_file.specs.Exact.{ExplainsFault, most_lines}
use Rattle.rinex_file.specs.File.{file_text, file_lines}
use Rattle.rinex_file.specs.FileValues.{IsFileValue}
use Rattle.rinex_file.specs.Value.{FileValue, Stamped}
use Rattle.rinex_file.specs.declared.read.fault.ReadFault.{ReadFault}
use Rattle.rinex_file.specs.declared.read.fault.ReadFault.TheVariants as reading
use Rattle.rinex_inspect.specs.CheckOutput.{IsOutput, gaps_if, times_in}
use Rattle.devices.specs.Printing.{IsUnread}
use Rattle.rinex_inspect.specs.Faults.{culprit}
use Rattle.rinex_inspect.specs.Gaps.{AreInside, Completeness, is_inside}
use Rattle.rinex_inspect.specs.declared.check.CheckOptions.{CheckOptions}
use Rattle.rinex_inspect.specs.declared.fault.FileFault.{FileFault}
use Rattle.rinex_inspect.specs.declared.fault.FileFault.TheVariants as faults

-- the reader had the text of a file value without an epoch outside of the window, and Writes holds for the output
abbrev pub IsFileWith : CheckOptions → (List ℕ → Type 0) → (unread : Option (List ℕ)) → Type 0
IsFileWith o Writes unread =
    (v : FileValue) × IsFileValue v × IfSome unread (λ input. input ≡ file_text v)
    × AreInside o.complete (times_in v.epochs) × ((text : List ℕ) × IsOutput o v text × Writes text)

-- the output was written whole
abbrev pub ChecksFile : {R W : Type 0} → CheckOptions → (d d' : Devices R W) → Type 0
ChecksFile o d d' = IsFileWith o (Appends d.writer.written d'.writer.written) d.reader.unread

-- line k of the input is that of an epoch outside of the window, after these epochs, which are inside
abbrev pub IsOtherDay : Option Completeness → List Stamped → (k : ℕ) → List ℕ → Type 0
IsOtherDay complete es k input = (t : ℕ) × (is_inside complete t ≡ false) × AreInside complete (times_in es)
    × IsEpochLine es t k input

-- between these epochs and the line of the fault no epoch was begun, or one that is inside; of a failed read, which has
-- no line, it says nothing
abbrev pub IsNextInside : Option Completeness → List Stamped → ReadFault → List ℕ → Type 0
IsNextInside complete es e input =
    AreWholeBefore es e input ⊎ ((t n : ℕ) × (is_inside complete t ≡ true) × IsEpochLine es t n input)

-- A file isn't accepted for this reason: the gaps of the epochs before it were written, which are inside of the window,
-- and nothing waits in the writer. At a failed read these are all epochs in the bytes that were read. Or the writer
-- failed, before anything was read, in the gaps of the first epochs if they are asked for, or in the output of a file.
abbrev pub StopsCheck : {R W : Type 0} → CheckOptions → (d d' : Devices R W) → FileFault → Type 0
StopsCheck o d d' (faults.File e) =
    (es : List Stamped)
    × IfSome d.reader.unread
    (λ input. ExplainsFault input e × AreEpochsBefore es e input × IsNextInside o.complete es e input)
    × (e ≡ reading.Read → AreEpochsRead es d.reader.unread d'.reader.unread) × AreInside o.complete (times_in es)
    × Appends d.writer.written d'.writer.written (gaps_if o.complete (times_in es)) × (d'.writer.waiting ≡ [])
StopsCheck o d d' (faults.OtherDay k) =
    (es : List Stamped) × IfSome d.reader.unread (IsOtherDay o.complete es k)
    × Appends d.writer.written d'.writer.written (gaps_if o.complete (times_in es)) × (d'.writer.waiting ≡ [])
StopsCheck o d d' faults.Write =
    IsUnread d d'
    ⊎ ((es : List Stamped) × (n : ℕ) × (is_some o.complete ≡ true) × IfSome d.reader.unread (AreFirstEpochs es n)
    × AreInside o.complete (times_in es)
    × AppendsPrefix d.writer.written d'.writer.written (gaps_if o.complete (times_in es)))
    ⊎ IsFileWith o (AppendsPrefix d.writer.written d'.writer.written) d.reader.unread

-- how a check ended
abbrev pub EndsCheck : {A R W : Type 0} → CheckOptions → Result A FileFault → (d d' : Devices R W) → Type 0
EndsCheck o result d d' = Ends culprit result d d' (λ _. ChecksFile o d d') (StopsCheck o d d')

-- The possible outcomes for the text of this file value: its output if no epoch is outside of the window, unless memory
-- runs out or a device fails. A writer that fails has accepted nothing or a prefix.
abbrev pub IsCheckedOr : CheckOptions → FileValue → Result ⊤ FileFault → (w w' : Option (List ℕ)) → Type 0
IsCheckedOr o v (Ok u) w w' =
    AreInside o.complete (times_in v.epochs) × ((text : List ℕ) × IsOutput o v text × Appends w w' text)
IsCheckedOr o v (Err faults.Write) w w' = Keeps w w' ⊎ ((text : List ℕ) × IsOutput o v text × AppendsPrefix w w' text)
IsCheckedOr o v (Err (faults.File reading.Memory)) w w' = ⊤
IsCheckedOr o v (Err (faults.File reading.Read)) w w' = ⊤
IsCheckedOr o v (Err (faults.OtherDay k)) w w' = AreInside o.complete (times_in v.epochs) → ⊥
IsCheckedOr o v (Err other) w w' = ⊥

-- the text of each file value is accepted
abbrev pub AcceptsFiles : {R W : Type 0} → CheckOptions → Result ⊤ FileFault → (d d' : Devices R W) → Type 0
AcceptsFiles o result d d' = (v : FileValue) → IsFileValue v → length (file_lines v) ≤ most_lines
    → IfSome d.reader.unread (λ input. input ≡ file_text v → IsCheckedOr o v result d.writer.written d'.writer.written)

-- A command ended as `Ended` says, after it read some prefix of the input, and accepts the text of each file value.
pub record ReadsFile {R W : Type 0} (Ended Accepted : (d d' : Devices R W) → Type 0) (d d' : Devices R W) : Type 0 where
  pub ends : Ended d d'
  pub left : LeavesRest d.reader.unread d'.reader.unread
  pub only : Accepted d d'
