-- The state of a converter that contracts cite, and the bytes that it may have accepted.
use Rattle.std.specs.Prelude.{◌≡◌, ◌⊎◌, ℕ, ◌+◌, ◌-◌, ◌<◌, ◌≤◌, List, ◌++◌, take, length}
use Rattle.std.specs.Prelude.{Bool, true, false, Option, Some, None, IfSome, if◌then◌else◌, Result, Err, IfErr}
use Rattle.std.specs.Io.KnownBytes.{Consumes, IsAtEnd}
use Rattle.rtcm_bits.specs.FrameOf.{longest_frame}
use Rattle.rtcm_scan.specs.Frames.{frames_of}
use Rattle.rtcm_scan.specs.Decided.{decided, decided_frames}
use Rattle.rtcm_scan.specs.Scan.{FramerValue}
use Rattle.rtcm_scan.specs.Drained.{IsDrained}
use Rattle.rtcm_convert.specs.Converted.{SetupValue, epoch_counts, epochs_in, file, so_far}
use Rattle.gnss_system.specs.SystemValues.{tabulate}
use Rattle.gnss_obs.specs.Values.{cells_of}
use Rattle.obs_epoch.specs.GathererAfter.{recorded}
use Rattle.rtcm_convert.specs.Kept.{IsWithinBounds, IsKeptAtEnd}
use Rattle.rtcm_convert.specs.declared.converter.Kept.{Kept}
use Rattle.rtcm_convert.specs.Filed.{HasGathered}
use Rattle.rtcm_convert.specs.Outcomes.{report_of}
use Rattle.rtcm_convert.specs.Fed.{AppendsUpTo}
use Rattle.rtcm_convert.specs.Stream.{Drained, AppendsDecided, AppendsRest}
use Rattle.rtcm_convert.specs.declared.file_writer.FileWriter.{FileWriter}
use Rattle.rtcm_convert.specs.declared.report.Report.{Report}
use Rattle.rtcm_convert.specs.declared.fault.Fault.{Fault}
use Rattle.rtcm_convert.specs.declared.fault.Fault.TheVariants.{Failed, Finished, NoEpoch, NoneChosen}
use Rattle.rtcm_convert.specs.Faults.{fault_of_none}

-- scan: the state of its framer; file_writer: the state of the file writer; has_failed: an earlier call failed;
-- has_ended: the stream was ended
pub record Conversion : Type 0 where
  pub scan : FramerValue
  pub file_writer : FileWriter
  pub has_failed : Bool
  pub has_ended : Bool

-- no call failed, and the stream wasn't ended
pub record IsGoing (v : Conversion) : Type 0 where
  pub fine : v.has_failed ≡ false
  pub more : v.has_ended ≡ false

-- the fault of every later call
abbrev pub refusal : Conversion → Option Fault
refusal v = (if v.has_ended then Some Finished else if v.has_failed then Some Failed else None)

-- a call returns its refusal, if it has one, and leaves the converter and its devices as they are
abbrev pub IsRefused : {A : Type 0} → (v w : Conversion) → (devices : Type 0) → Result A Fault → Type 0
IsRefused v w devices result = IfSome (refusal v) (λ fault. (result ≡ Err fault) × (w ≡ v) × devices)

-- A converter made with these settings accepted these bytes: it holds the undecided ones, examined the candidates up to
-- the first undecided offset, and wrote the epochs that the decided frames close.
pub record HasConverted (v : Conversion) (s : SetupValue) (b : List ℕ) : Type 0 where
  pub going : IsGoing v
  pub drained : Drained v.scan v.file_writer s b

-- the stream of these bytes, which are no more than the limit, was ended: all of them were accepted, decided, examined
-- and gathered
pub record HasFinished (v : Conversion) (s : SetupValue) (b : List ℕ) : Type 0 where
  pub ended : v.scan.has_ended ≡ true
  pub taken : v.scan.taken ≡ length b
  pub within : length b ≤ v.scan.limit
  pub drained : IsDrained v.scan b (frames_of b)
  pub gathered : HasGathered v.file_writer s (frames_of b)

-- this holds for all bytes that it may have accepted
abbrev pub ForAccepted : Conversion → (SetupValue → List ℕ → Type 0) → Type 0
ForAccepted v P = (s : SetupValue) (bytes : List ℕ) → HasConverted v s bytes → P s bytes

-- this holds for all bytes of which the ended stream may have been
abbrev pub ForFinished : Conversion → (SetupValue → List ℕ → Type 0) → Type 0
ForFinished v P = (s : SetupValue) (bytes : List ℕ) → HasFinished v s bytes → P s bytes

-- what a converter holds and has examined
abbrev pub kept_of : Conversion → Kept
kept_of v = record {
  held = length v.scan.held;
  cells = tabulate (λ s. length (cells_of s v.file_writer.gatherer.epoch));
  locks = recorded v.file_writer.gatherer.locks;
  examined = v.scan.examined;
  most = v.scan.most;
}

-- it accepted these bytes up to its limit, and what they add was written
abbrev pub TakesToLimit : Conversion → List ℕ → (a b : Option (List ℕ)) → Type 0
TakesToLimit v piece a b = ForAccepted v (λ s bytes. AppendsDecided a b s bytes (take v.scan.limit (bytes ++ piece)))

-- these bytes go over the limit; they were accepted up to it, and what they add was written
pub record CutsAtLimit (v w : Conversion) (piece : List ℕ) (a b : Option (List ℕ)) : Type 0 where
  pub adds : TakesToLimit v piece a b
  pub full : w.scan.taken ≡ v.scan.limit
  pub over : v.scan.limit < v.scan.taken + length piece

-- what these bytes add was written
abbrev pub WritesAdded : Conversion → List ℕ → (a b : Option (List ℕ)) → Type 0
WritesAdded v front a b = ForAccepted v (λ s bytes. AppendsDecided a b s bytes (bytes ++ front))

-- some further bytes were read and accepted, and what they add was written; then the reader failed
abbrev pub RanToFault : (v w : Conversion) (r r' a b : Option (List ℕ)) → Type 0
RanToFault v w r r' a b =
    (front : List ℕ) × Consumes r r' front × (w.scan.taken ≡ v.scan.taken + length front) × WritesAdded v front a b

-- the stream is longer than the limit; some further bytes were read, and accepted up to it; what these add was written
pub record RanToLimit (v w : Conversion) (r r' a b : Option (List ℕ)) : Type 0 where
  pub front : List ℕ
  pub consumes : Consumes r r' front
  pub adds : TakesToLimit v front a b
  pub full : w.scan.taken ≡ v.scan.limit
  pub over : IfSome r (λ rest. ForAccepted v (λ s bytes. v.scan.limit < length (bytes ++ rest)))

-- What these bytes add was written, and then a prefix of what a last piece adds; the piece fits beside the undecided
-- bytes.
pub record FailsAtPiece (a b : Option (List ℕ)) (s : SetupValue) (bytes piece : List ℕ) (all : List ℕ) : Type 0 where
  pub out : AppendsUpTo a b (so_far s (decided_frames bytes)) (so_far s (decided_frames all))
      (so_far s (decided_frames (all ++ piece)))
  pub near : (length all - decided all) + length piece ≤ longest_frame

-- what these bytes add was written, and then a prefix of the rest of their file
abbrev pub FailsAtEnd : (a b : Option (List ℕ)) → SetupValue → (bytes all : List ℕ) → Type 0
FailsAtEnd a b s bytes all =
    AppendsUpTo a b (so_far s (decided_frames bytes)) (so_far s (decided_frames all)) (file s (frames_of all))

-- at least n more bytes were accepted, and at most m
pub record IsTakenFrom (v w : Conversion) (n m : ℕ) : Type 0 where
  pub least : v.scan.taken + n ≤ w.scan.taken
  pub most : w.scan.taken ≤ v.scan.taken + m

-- the bytes read split into those accepted and a last piece at which the writer failed
abbrev pub FailsFeeding : (v w : Conversion) (r r' a b : Option (List ℕ)) → Type 0
FailsFeeding v w r r' a b = (front : List ℕ) × (piece : List ℕ) × Consumes r r' (front ++ piece)
    × IsTakenFrom v w (length front) (length front + length piece)
    × ForAccepted v (λ s bytes. FailsAtPiece a b s bytes piece (bytes ++ front))

-- all was read, and the writer failed in the rest of the file
abbrev pub FailsFinishing : (v w : Conversion) (r r' a b : Option (List ℕ)) → Type 0
FailsFinishing v w r r' a b =
    (front : List ℕ) × Consumes r r' front × IsAtEnd r' × (w.scan.taken ≡ v.scan.taken + length front)
    × ForAccepted v (λ s bytes. FailsAtEnd a b s bytes (bytes ++ front))

-- the writer failed at one of the pieces, or when all was read
abbrev pub StopsRunning : (v w : Conversion) (r r' a b : Option (List ℕ)) → Type 0
StopsRunning v w r r' a b = FailsFeeding v w r r' a b ⊎ FailsFinishing v w r r' a b

-- The rest of the file of all these bytes, which has an epoch, was written; `report` is its report; all bytes were
-- decided and examined; and what the converter holds and has examined are the values for these bytes, within the bounds.
pub record Completed (w : Conversion) (report : Report) (a b : Option (List ℕ)) (s : SetupValue) (bytes all : List ℕ)
    : Type 0 where
  pub out : AppendsRest a b s bytes all
  pub some : 0 < epochs_in s (frames_of all)
  pub report_is : report ≡ report_of s all
  pub finished : HasFinished w s all
  pub kept : IsKeptAtEnd s all (kept_of w)
  pub bounds : IsWithinBounds (length all) (kept_of w)

-- The file of all these bytes has no epoch and is empty, and `fault` is its fault; all bytes were decided and examined.
pub record CompletedEmpty (w : Conversion) (fault : Fault) (a b : Option (List ℕ)) (s : SetupValue) (bytes all : List ℕ)
    : Type 0 where
  pub none : epochs_in s (frames_of all) ≡ 0
  pub fault_is : fault ≡ fault_of_none (epoch_counts s (frames_of all))
  pub out : AppendsRest a b s bytes all
  pub finished : HasFinished w s all
  pub kept : IsKeptAtEnd s all (kept_of w)
  pub bounds : IsWithinBounds (length all) (kept_of w)

-- with these further bytes, the file was completed
abbrev pub CompletesFile : (v w : Conversion) → Report → List ℕ → (a b : Option (List ℕ)) → Type 0
CompletesFile v w report rest a b = ForAccepted v (λ s bytes. Completed w report a b s bytes (bytes ++ rest))

-- with these further bytes, the file was completed and is empty
abbrev pub CompletesEmptyFile : (v w : Conversion) → Fault → List ℕ → (a b : Option (List ℕ)) → Type 0
CompletesEmptyFile v w fault rest a b = ForAccepted v (λ s bytes. CompletedEmpty w fault a b s bytes (bytes ++ rest))

-- with the rest of the stream, the file was completed
abbrev pub CompletesFileOfAll : (v w : Conversion) → Report → (r r' a b : Option (List ℕ)) → Type 0
CompletesFileOfAll v w report r r' a b = IfSome r (λ rest. CompletesFile v w report rest a b)

-- with the rest of the stream, the file was completed and is empty
abbrev pub CompletesEmptyFileOfAll : (v w : Conversion) → Fault → (r r' a b : Option (List ℕ)) → Type 0
CompletesEmptyFileOfAll v w fault r r' a b = IfSome r (λ rest. CompletesEmptyFile v w fault rest a b)

-- the state of a converter after a fault of a call, if it had neither failed nor ended before: finished after
-- `NoEpoch` and `NoneChosen`, else failed
abbrev pub LeftBy : Fault → Conversion → Type 0
LeftBy NoEpoch v = v.has_ended ≡ true
LeftBy (NoneChosen counts) v = v.has_ended ≡ true
LeftBy _ v = (v.has_failed ≡ true) × (v.has_ended ≡ false)

-- the state of a converter after a call: the limit is unchanged; if it had neither failed nor ended before, a fault is
-- one of these, and the state is that after this fault
abbrev pub IsLeft : {A : Type 0} → (Fault → Type 0) → Conversion → Conversion → Result A Fault → Type 0
IsLeft kinds v w result =
    (w.scan.limit ≡ v.scan.limit) × (IsGoing v → IfErr result (λ fault. kinds fault × LeftBy fault w))
