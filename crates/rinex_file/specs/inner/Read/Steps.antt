-- What a reading means for all the lines that it accepted.
use Rattle.std.specs.Prelude.{◌≡◌, ℕ, ◌+◌, ◌≤◌, Bool, true, false, List, [], length, All, Option, Result, Ok, Err, IfSome}
use Rattle.std.specs.Io.KnownBytes.{Consumes, prepend_known}
use Rattle.rinex_file.specs.declared.read.fault.ReadFault.{ReadFault}
use Rattle.rinex_file.specs.declared.read.fault.ReadFault.TheVariants.{Read}
use Rattle.rinex_file.specs.declared.read.epochs.EpochReader.{EpochReader}
use Rattle.rinex_file.specs.declared.read.parser_state.Expected.TheVariants.{Epoch}
use Rattle.rinex_file.specs.declared.read.parser_state.ParserState.{ParserState}
use Rattle.rinex_columns.specs.Numbers.{joined}
use Rattle.rinex_file.specs.Value.{FileValue, Stamped}
use Rattle.rinex_file.specs.FileValues.{IsFileValue}
use Rattle.rinex_file.specs.File.{file_text, file_lines}
use Rattle.rinex_file.specs.Accepted.{AreEpochsBefore, AreEpochsRead, IsFaultAfter}
use Rattle.rinex_file.specs.Exact.{ExplainsFault, IfTextOfFile, IsLine, IsNoFault, most_lines}
use Rattle.rinex_file.specs.inner.Read.Progress.{Progress, file_with}
use Rattle.rinex_file.specs.inner.Read.Sound.{HasReadLines}
use Rattle.rinex_file.specs.inner.ParserState.{AddsAt, FollowsHistory, HasRoom, progress_at}
use Rattle.rinex_file.specs.Counting.{History}

-- `count` lines were accepted, and what was read describes them
pub record IsTaken (s : Progress) (count : ℕ) (input left : Option (List ℕ)) : Type 0 where
  pub lines : List (List ℕ)
  pub are : All IsLine lines
  pub many : length lines ≡ count
  pub taken : Consumes input left (joined lines)
  pub history : HasReadLines s lines

-- no count is greater than the number of lines, which is at most `most_lines`
abbrev pub MayBeCounted : EpochReader → Type 0
MayBeCounted r = HasRoom r.parser_state r.count × (r.count ≤ most_lines)

-- a history was read of the input, this is left of it after what was read ahead, and no count is too great
pub record HasRead (r : EpochReader) (h : History) (input left : Option (List ℕ)) : Type 0 where
  pub taken : IsTaken (progress_at r.parser_state h) r.count input (prepend_known r.lines.ahead left)
  pub history : FollowsHistory r.parser_state h
  pub within : MayBeCounted r

-- the file of a history
abbrev pub file_at : ParserState → History → FileValue
file_at c h = file_with (progress_at c h) h.epochs

-- the input is the text of a file value, and of no other
pub record IsTextOfOnly (f : FileValue) (input : List ℕ) : Type 0 where
  pub same : input ≡ file_text f
  pub only : (v : FileValue) → IsFileValue v → input ≡ file_text v → v ≡ f

-- the file of a history was read whole
pub record IsWhole (c : ParserState) (h : History) (input : Option (List ℕ)) : Type 0 where
  pub is : IsFileValue (file_at c h)
  pub few : length (file_lines (file_at c h)) ≤ most_lines
  pub text : IfSome input (IsTextOfOnly (file_at c h))
  pub history : FollowsHistory c h
  pub none : h.rows ≡ []

-- The fault follows the lines that have the epochs that were read, and isn't one of a file's text. If the reader failed,
-- they are those of all bytes that were read.
abbrev pub StopsReading : List Stamped → (input left : Option (List ℕ)) → ReadFault → Type 0
StopsReading es input left fault =
    IfSome input (λ bytes. ExplainsFault bytes fault × AreEpochsBefore es fault bytes)
    × IfTextOfFile input (λ v. IsNoFault fault) × (fault ≡ Read → AreEpochsRead es input left)

-- the result of the next line: a history with what the line adds, and one line more; the end, after whole epochs; or a
-- fault
abbrev pub ReadsNextLine : (old new : EpochReader) → History → (input left : Option (List ℕ)) → Result Bool ReadFault
    → Type 0
ReadsNextLine old new h input left (Ok true) =
    (after : History) × HasRead new after input left × (new.count ≡ old.count + 1)
    × AddsAt old.parser_state.expected old.parser_state new.parser_state h after
ReadsNextLine old new h input left (Ok false) =
    IsWhole new.parser_state h input × (old.parser_state.expected ≡ Epoch) × (new.parser_state ≡ old.parser_state)
ReadsNextLine old new h input left (Err fault) =
    StopsReading h.epochs input left fault × IsFaultAfter fault old.count

-- for every history that was read, the reading continues with the next line
abbrev pub GoesOnReading : (old : EpochReader) → Option (List ℕ) → (new : EpochReader) → Option (List ℕ)
    → Result Bool ReadFault → Type 0
GoesOnReading old before new after result =
    (h : History) (input : Option (List ℕ)) → HasRead old h input before → ReadsNextLine old new h input after result
