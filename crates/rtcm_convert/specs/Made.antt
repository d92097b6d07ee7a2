-- The file written of a whole stream.
use Rattle.std.specs.Prelude.{◌≡◌, ◌⊎◌, ℕ, ◌<◌, ◌≤◌, List, length, take, Option, IfSome}
use Rattle.std.specs.Io.KnownBytes.{Appends, Consumes}
use Rattle.rtcm_scan.specs.Decided.{decided_frames}
use Rattle.rtcm_scan.specs.Frames.{frames_of}
use Rattle.rtcm_convert.specs.Broken.{FailedWriting, FailedWritingAtEnd}
use Rattle.rtcm_convert.specs.Converted.{file, so_far, epoch_counts, epochs_in}
use Rattle.rtcm_convert.specs.Faults.{fault_of_none}
use Rattle.rtcm_convert.specs.declared.fault.Fault.{Fault}
use Rattle.rtcm_convert.specs.Outcomes.{report_of}
use Rattle.rtcm_convert.specs.Readable.{HasValue}
use Rattle.rtcm_convert.specs.SetupValues.{setup_value}
use Rattle.rtcm_convert.specs.declared.setup.Setup.{Setup}
use Rattle.rtcm_convert.specs.declared.report.Report.{Report}

-- These bytes are no more than the limit, and the file of their frames, which has an epoch, was written: the text of a
-- file value.
pub record IsMade (x : Setup) (a b : Option (List ℕ)) (bytes : List ℕ) : Type 0 where
  pub within : length bytes ≤ x.limit
  pub some : 0 < epochs_in (setup_value x) (frames_of bytes)
  pub value : HasValue (file (setup_value x) (frames_of bytes))
  pub out : Appends a b (file (setup_value x) (frames_of bytes))

-- These bytes are no more than the limit, and the file of their frames has no epoch; it is empty, and `fault` is its
-- fault.
pub record IsMadeEmpty (x : Setup) (fault : Fault) (a b : Option (List ℕ)) (bytes : List ℕ) : Type 0 where
  pub within : length bytes ≤ x.limit
  pub none : epochs_in (setup_value x) (frames_of bytes) ≡ 0
  pub fault_is : fault ≡ fault_of_none (epoch_counts (setup_value x) (frames_of bytes))
  pub out : Appends a b (file (setup_value x) (frames_of bytes))

-- The stream is longer than the limit; the bytes written are the file of the epochs that the bytes read up to the limit
-- close.
pub record IsMadeToLimit (x : Setup) (r r' a b : Option (List ℕ)) : Type 0 where
  pub over : IfSome r (λ bytes. x.limit < length bytes)
  pub out : (front : List ℕ) × Consumes r r' front
      × Appends a b (so_far (setup_value x) (decided_frames (take x.limit front)))

-- the bytes written are the file of the epochs that the bytes read close
abbrev pub IsMadeSoFar : Setup → (r r' a b : Option (List ℕ)) → Type 0
IsMadeSoFar x r r' a b =
    (front : List ℕ) × Consumes r r' front × Appends a b (so_far (setup_value x) (decided_frames front))

-- the writer failed at one of the pieces read or after all was read, and a part of the file was written
abbrev pub IsMadeInPart : Setup → (r r' a b : Option (List ℕ)) → Type 0
IsMadeInPart x r r' a b = FailedWriting r r' a b (setup_value x) ⊎ FailedWritingAtEnd r r' a b (setup_value x)

-- the file of these bytes was written, and `report` is its report
abbrev pub IsMadeWith : Setup → Report → (a b : Option (List ℕ)) → List ℕ → Type 0
IsMadeWith x report a b bytes = IsMade x a b bytes × (report ≡ report_of (setup_value x) bytes)
