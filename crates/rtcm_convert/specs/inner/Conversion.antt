-- The state of a converter that contracts cite, and the bytes that it may have accepted.
use Rattle.std.specs.Prelude.{◌≡◌, ℕ, ◌+◌, ◌<◌, ◌≤◌, List, ◌++◌, length, true, false, Option}
use Rattle.rtcm_convert.specs.Converted.{SetupValue}
use Rattle.rtcm_convert.specs.Kept.{IsWithinBounds, IsKeptNow}
use Rattle.rtcm_scan.specs.Examined.{HasExaminedSome}
use Rattle.rtcm_convert.specs.Stream.{AppendsDecided, AppendsPrefixOfDecided, AppendsPrefixOfRest}
use Rattle.rtcm_convert.specs.inner.Stream.{HasDrainedSome}
use Rattle.rtcm_convert.specs.declared.report.Report.{Report}
use Rattle.rtcm_convert.specs.declared.fault.Fault.{Fault}
use Rattle.rtcm_convert.specs.Conversion.{Conversion, ForAccepted, IsGoing, HasConverted, kept_of, Completed}
use Rattle.rtcm_convert.specs.Conversion.{CompletedEmpty}

-- a converter that has neither failed nor ended can accept bytes; at every moment the framer has examined some list of
-- bytes
pub record IsFit (v : Conversion) : Type 0 where
  pub going : IsGoing v → v.file_writer.gatherer.has_ended ≡ false
  pub listening : IsGoing v → v.scan.has_ended ≡ false
  pub ready : IsGoing v → v.scan.is_ready ≡ true
  pub drained : IsGoing v → HasDrainedSome v.scan
  pub examined : HasExaminedSome v.scan

-- they are the values for the bytes that it accepted, within the bounds
pub record KeepsNow (v : Conversion) : Type 0 where
  pub bounds : IsWithinBounds v.scan.taken (kept_of v)
  pub values : ForAccepted v (λ s b. IsKeptNow s b (kept_of v))

-- it accepted n more bytes, within the same limit, and neither failed nor ended
abbrev pub GoesOnBy : Conversion → Conversion → ℕ → Type 0
GoesOnBy v w n = IsGoing w × (w.scan.limit ≡ v.scan.limit) × (w.scan.taken ≡ v.scan.taken + n)
    × (0 < n → w.scan.taken ≤ w.scan.limit)

-- The converter accepted the bytes up to `all`: what they add was written, and what it holds and has examined are the
-- values for all of them, within the bounds.
pub record Continued (w : Conversion) (a b : Option (List ℕ)) (s : SetupValue) (bytes all : List ℕ) : Type 0 where
  pub converted : HasConverted w s all
  pub out : AppendsDecided a b s bytes all
  pub kept : IsKeptNow s all (kept_of w)
  pub bounds : IsWithinBounds (length all) (kept_of w)

-- it accepted these further bytes
abbrev pub TakesPiece : (v w : Conversion) → List ℕ → (a b : Option (List ℕ)) → Type 0
TakesPiece v w piece a b = ForAccepted v (λ s bytes. Continued w a b s bytes (bytes ++ piece))

-- a prefix of what these bytes add was written
abbrev pub WritesPrefixOfAdded : Conversion → List ℕ → (a b : Option (List ℕ)) → Type 0
WritesPrefixOfAdded v piece a b = ForAccepted v (λ s bytes. AppendsPrefixOfDecided a b s bytes (bytes ++ piece))

-- the stream ends here, and a prefix of the rest of its file was written
abbrev pub StopsAtEnd : Conversion → (a b : Option (List ℕ)) → Type 0
StopsAtEnd v a b = ForAccepted v (λ s bytes. AppendsPrefixOfRest a b s bytes bytes)

-- the stream ends here, and the file was completed
abbrev pub FinishesNow : (v w : Conversion) → Report → (a b : Option (List ℕ)) → Type 0
FinishesNow v w report a b = ForAccepted v (λ s bytes. Completed w report a b s bytes bytes)

-- the stream ends here, and the file was completed and is empty
abbrev pub FinishesEmptyNow : (v w : Conversion) → Fault → (a b : Option (List ℕ)) → Type 0
FinishesEmptyNow v w fault a b = ForAccepted v (λ s bytes. CompletedEmpty w fault a b s bytes bytes)
