-- What is read from an input line by line.
use Rattle.std.specs.Prelude.{◌≡◌, ℕ, ◌+◌, ◌^◌, ◌<◌, ◌≤◌, ◌⊎◌, true, false, List, [], ◌∷◌, ◌++◌, length, All, Option, Result}
use Rattle.std.specs.Prelude.{Ok, Err, ⊤, IfSome}
use Rattle.std.specs.Io.KnownBytes.{IsAtEnd}
use Rattle.devices.specs.Device.{HasFailed}
use Rattle.rinex_file.specs.declared.read.lines.Found.{Found}
use Rattle.rinex_file.specs.declared.read.lines.Found.TheVariants.{Line, End, Long, Failed}
use Rattle.rinex_file.specs.declared.read.fault.ReadFault.{ReadFault}
use Rattle.rinex_file.specs.declared.read.fault.ReadFault.TheVariants.{Memory, Read, BadHeader, BadEpoch, BadEvent}
use Rattle.rinex_file.specs.declared.read.fault.ReadFault.TheVariants.{BadSatellite, CutShort, TooLong}
use Rattle.rinex_file.specs.declared.read.parser_state.Expected.{Expected}
use Rattle.rinex_file.specs.declared.read.parser_state.Expected.TheVariants.{Header, Epoch, EventPosition, EventHeight}
use Rattle.rinex_file.specs.declared.read.parser_state.Expected.TheVariants.{EventEpoch, Satellite}
use Rattle.rinex_columns.specs.Read.{has}
use Rattle.rinex_columns.specs.Numbers.{joined}
use Rattle.rinex_file.specs.Value.{FileValue}
use Rattle.rinex_file.specs.FileValues.{IsFileValue}
use Rattle.rinex_file.specs.File.{file_text, file_lines, shown_text}
use Rattle.rinex_file.specs.Header.{Shown, is_of_types}
use Rattle.rinex_file.specs.Begun.{IsShown, IsHeaderBegun, IsBetweenEpochs, IsEventBegun, IsEpochBegun, AreBegun}
use Rattle.rinex_columns.specs.Limits.{most_line}

-- a line: bytes that end in their only line feed
abbrev pub IsLine : List ℕ → Type 0
IsLine line = (body : List ℕ) × (line ≡ body ++ 10 ∷ []) × (has 10 body ≡ false)

-- what the bytes are that were consumed for a line, if `left` is the rest of the input, and the reader's failures
abbrev pub IsFound : Found → List ℕ → Option (List ℕ) → ℕ → ℕ → Type 0
IsFound Line bytes left old new = IsLine bytes × (new ≡ old)
IsFound End bytes left old new = (has 10 bytes ≡ false) × IsAtEnd left × (new ≡ old) × (length bytes < most_line)
IsFound Long bytes left old new = (length bytes ≡ most_line) × (has 10 bytes ≡ false) × (new ≡ old)
IsFound Failed bytes left old new = HasFailed old new × (has 10 bytes ≡ false)

-- `lines` are the first lines of the input, and `rest` follows them
pub record AreFirstLines (input : List ℕ) (lines : List (List ℕ)) (rest : List ℕ) : Type 0 where
  pub are : All IsLine lines
  pub first : input ≡ joined lines ++ rest

-- no file value's text begins with these bytes
abbrev pub NoFileBegins : List ℕ → Type 0
NoFileBegins front = (v : FileValue) (rest : List ℕ) → IsFileValue v → file_text v ≡ front ++ rest → ⊥

-- no file value's text begins with the first k lines of the input
pub record IsRefuted (input : List ℕ) (k : ℕ) : Type 0 where
  pub lines : List (List ℕ)
  pub rest : List ℕ
  pub first : AreFirstLines input lines rest
  pub count : length lines ≡ k
  pub none : NoFileBegins (joined lines)

-- line k of the input has no line feed in 1,220 bytes
pub record IsOverLong (input : List ℕ) (k : ℕ) : Type 0 where
  pub lines : List (List ℕ)
  pub long : List ℕ
  pub rest : List ℕ
  pub first : AreFirstLines input lines (long ++ rest)
  pub count : length lines + 1 ≡ k
  pub size : length long ≡ most_line
  pub endless : has 10 long ≡ false

-- the input ends before the line feed of line k, which has fewer than 1,220 bytes, some file may begin with the lines
-- before it, and the input is no file value's text
pub record IsCutShort (input : List ℕ) (k : ℕ) : Type 0 where
  pub lines : List (List ℕ)
  pub rest : List ℕ
  pub first : AreFirstLines input lines rest
  pub count : length lines + 1 ≡ k
  pub endless : has 10 rest ≡ false
  pub size : length rest < most_line
  pub begun : AreBegun lines
  pub none : (v : FileValue) → IsFileValue v → input ≡ file_text v → ⊥

-- ---- which kind of line is expected

-- `Are` holds of the first k - 1 lines of the input
pub record IsAfter (Are : List (List ℕ) → Type 0) (input : List ℕ) (k : ℕ) : Type 0 where
  pub lines : List (List ℕ)
  pub rest : List ℕ
  pub first : AreFirstLines input lines rest
  pub count : length lines + 1 ≡ k
  pub are : Are lines

-- the lines before a line of the expected kind
abbrev pub AreBefore : Expected → List (List ℕ) → Type 0
AreBefore (Header place) lines = IsHeaderBegun lines
AreBefore Epoch lines = IsBetweenEpochs lines
AreBefore EventPosition lines = IsEventBegun 1 lines
AreBefore (EventHeight position) lines = IsEventBegun 2 lines
AreBefore (EventEpoch values) lines = IsEventBegun 3 lines
AreBefore (Satellite n) lines = IsEpochBegun lines

abbrev pub IsExpectedAt : Expected → List ℕ → ℕ → Type 0
IsExpectedAt expected input k = IsAfter (AreBefore expected) input k

-- ---- faults

-- why line k is a fault
abbrev pub IsFaulty : List ℕ → ℕ → Type 0
IsFaulty input k = IsRefuted input k ⊎ IsOverLong input k

-- the largest number of lines of a file
abbrev pub most_lines : ℕ
most_lines = 2 ^ 32

-- a byte follows `most_lines` lines
pub record IsTooLong (input : List ℕ) : Type 0 where
  pub lines : List (List ℕ)
  pub rest : List ℕ
  pub first : AreFirstLines input lines rest
  pub count : length lines ≡ most_lines
  pub more : 0 < length rest

-- a line of types in a header: the only line at which memory may run out
pub record IsAtTypes (input : List ℕ) : Type 0 where
  pub lines : List (List ℕ)
  pub line : List ℕ
  pub rest : List ℕ
  pub first : AreFirstLines input (lines ++ line ∷ []) rest
  pub begun : IsHeaderBegun lines
  pub types : is_of_types line ≡ true

-- what each fault means for the input
abbrev pub ExplainsFault : List ℕ → ReadFault → Type 0
ExplainsFault input Memory = IsAtTypes input
ExplainsFault input Read = ⊤
ExplainsFault input (BadHeader k) = IsFaulty input k × IsAfter IsHeaderBegun input k
ExplainsFault input (BadEpoch k) =
    IsFaulty input k × (IsAfter IsBetweenEpochs input k ⊎ IsAfter (IsEventBegun 3) input k)
ExplainsFault input (BadEvent k) =
    IsFaulty input k × (IsAfter (IsEventBegun 1) input k ⊎ IsAfter (IsEventBegun 2) input k)
ExplainsFault input (BadSatellite k) = IsFaulty input k × IsAfter IsEpochBegun input k
ExplainsFault input (CutShort k) = IsCutShort input k
ExplainsFault input TooLong = IsTooLong input

-- the input begins with a header
pub record HasHeader (input : List ℕ) : Type 0 where
  pub h : Shown
  pub rest : List ℕ
  pub is : IsShown h
  pub begins : input ≡ shown_text h ++ rest

-- what each fault means for the input if its epochs are stored: memory for them may also run out after the header
abbrev pub ExplainsStored : List ℕ → ReadFault → Type 0
ExplainsStored input Memory = IsAtTypes input ⊎ HasHeader input
ExplainsStored input fault = ExplainsFault input fault

-- an allocation failure, or a failed reader
abbrev pub IsNoFault : ReadFault → Type 0
IsNoFault Memory = ⊤
IsNoFault Read = ⊤
IsNoFault _ = ⊥

-- if the input is known to be the text of a file value of at most `most_lines` lines, this holds of the value
abbrev pub IfTextOfFile : Option (List ℕ) → (FileValue → Type 0) → Type 0
IfTextOfFile input Holds =
    (v : FileValue) → IsFileValue v → length (file_lines v) ≤ most_lines
    → IfSome input (λ bytes. bytes ≡ file_text v → Holds v)

-- the input, if it is known, is the text of this file value, which has at most `most_lines` lines
pub record IsTextOf (v : FileValue) (input : Option (List ℕ)) : Type 0 where
  pub is : IsFileValue v
  pub few : length (file_lines v) ≤ most_lines
  pub text : IfSome input (λ bytes. bytes ≡ file_text v)

-- this value, or an allocation failure, or a failed reader
abbrev pub IsReadOr : FileValue → Result FileValue ReadFault → Type 0
IsReadOr v (Ok f) = f ≡ v
IsReadOr v (Err fault) = IsNoFault fault
