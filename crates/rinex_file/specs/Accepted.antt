-- The epochs in the first lines of an input.
use Rattle.std.specs.Prelude.{◌≡◌, ◌⊎◌, ℕ, ◌+◌, false, List, [], ◌∷◌, ◌++◌, length, All, Option, ⊤}
use Rattle.std.specs.Io.KnownBytes.{Consumes}
use Rattle.rtcm_bits.specs.Prefix.{IsPrefix}
use Rattle.rinex_file.specs.Begun.{IsHeaderBegun, IsBetweenEpochs, IsEventBegun, IsEpochBegun}
use Rattle.gnss_obs.specs.Values.{PlanValue}
use Rattle.rinex_file.specs.Exact.{AreFirstLines, HasHeader, IsAfter, IsLine, most_lines}
use Rattle.rinex_file.specs.File.{file_text}
use Rattle.rinex_file.specs.FileValues.{IsFileValue}
use Rattle.rinex_columns.specs.Numbers.{joined}
use Rattle.rinex_columns.specs.Read.{has}
use Rattle.rinex_file.specs.Value.{FileValue, Stamped}
use Rattle.rinex_file.specs.declared.read.fault.ReadFault.{ReadFault}
use Rattle.rinex_file.specs.declared.read.fault.ReadFault.TheVariants.{Memory, Read, BadHeader, BadEpoch, BadEvent}
use Rattle.rinex_file.specs.declared.read.fault.ReadFault.TheVariants.{BadSatellite, CutShort, TooLong}

-- lines that a file may begin with, without a part of an epoch, and their epochs
abbrev pub AreWholeWith : List Stamped → List (List ℕ) → Type 0
AreWholeWith es lines =
    ((es ≡ []) × IsHeaderBegun lines) ⊎ ((b : IsBetweenEpochs lines) × (b.es ≡ es))
    ⊎ ((b : IsEventBegun 1 lines) × (b.es ≡ es)) ⊎ ((b : IsEventBegun 2 lines) × (b.es ≡ es))
    ⊎ ((b : IsEventBegun 3 lines) × (b.es ≡ es))

-- lines that a file may begin with, and their whole epochs
abbrev pub AreBegunWith : List Stamped → List (List ℕ) → Type 0
AreBegunWith es lines = AreWholeWith es lines ⊎ ((b : IsEpochBegun lines) × (b.es ≡ es))

-- the first n lines of the input are such lines, and each file value with this text begins with their epochs
pub record AreFirstEpochs (es : List Stamped) (n : ℕ) (input : List ℕ) : Type 0 where
  pub lines : List (List ℕ)
  pub rest : List ℕ
  pub first : AreFirstLines input lines rest
  pub count : length lines ≡ n
  pub begun : AreBegunWith es lines
  pub only : (v : FileValue) → IsFileValue v → input ≡ file_text v → IsPrefix es v.epochs

-- line n of the input is that of an epoch at this time, after an event or none, these epochs and a header; and each file
-- value with this text begins with these epochs and one at this time
pub record IsEpochLine (es : List Stamped) (time n : ℕ) (input : List ℕ) : Type 0 where
  pub lines : List (List ℕ)
  pub rest : List ℕ
  pub first : AreFirstLines input lines rest
  pub count : length lines ≡ n
  pub begun : (b : IsEpochBegun lines) × (b.es ≡ es) × (b.e.time ≡ time) × (b.e.rows ≡ [])
  pub only : (v : FileValue) → IsFileValue v → input ≡ file_text v
      → (e : Stamped) × (e.time ≡ time) × IsPrefix (es ++ e ∷ []) v.epochs

-- the input begins with a header with this plan
abbrev pub HasPlan : PlanValue → List ℕ → Type 0
HasPlan plan input = (b : HasHeader input) × (b.h.plan ≡ plan)

-- bytes were read of the input, of which these are the whole epochs, and this is left
pub record AreEpochsRead (es : List Stamped) (input left : Option (List ℕ)) : Type 0 where
  pub lines : List (List ℕ)
  pub rest : List ℕ
  pub read : Consumes input left (joined lines ++ rest)
  pub are : All IsLine lines
  pub last : has 10 rest ≡ false
  pub begun : AreBegunWith es lines

-- n lines precede the fault
abbrev pub IsFaultAfter : ReadFault → ℕ → Type 0
IsFaultAfter Memory n = ⊤
IsFaultAfter Read n = ⊤
IsFaultAfter (BadHeader k) n = k ≡ n + 1
IsFaultAfter (BadEpoch k) n = k ≡ n + 1
IsFaultAfter (BadEvent k) n = k ≡ n + 1
IsFaultAfter (BadSatellite k) n = k ≡ n + 1
IsFaultAfter (CutShort k) n = k ≡ n + 1
IsFaultAfter TooLong n = n ≡ most_lines

-- the epochs in the lines before the fault; none if memory runs out
abbrev pub AreEpochsBefore : List Stamped → ReadFault → List ℕ → Type 0
AreEpochsBefore es fault input = (n : ℕ) × IsFaultAfter fault n × AreFirstEpochs es n input × (fault ≡ Memory → es ≡ [])

-- the lines before the fault have no part of an epoch, and these epochs; at a failed read it may be any lines
abbrev pub AreWholeBefore : List Stamped → ReadFault → List ℕ → Type 0
AreWholeBefore es fault input = (n : ℕ) × IsFaultAfter fault n × IsAfter (AreWholeWith es) input (n + 1)
