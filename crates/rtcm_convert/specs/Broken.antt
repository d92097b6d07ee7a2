-- What was written of a stream if the writer failed, or if the stream wasn't read or accepted to its end.
use Rattle.std.specs.Prelude.{ℕ, List, length, ◌+◌, ◌-◌, ◌≤◌, ◌++◌, flat_map, Option, Vec}
use Rattle.std.specs.Io.KnownBytes.{Consumes, IsAtEnd}
use Rattle.rtcm_bits.specs.FrameOf.{longest_frame}
use Rattle.rtcm_scan.specs.Frames.{frames_of}
use Rattle.rtcm_scan.specs.Decided.{decided, decided_frames}
use Rattle.devices.specs.Device.{IsBetween}
use Rattle.rtcm_convert.specs.Converted.{SetupValue, so_far, file}

-- they are at least the file of the epochs that the decided frames of these bytes close, and at most the whole file
abbrev pub IsBetweenDecidedAndWhole : (a b : Option (List ℕ)) → SetupValue → List ℕ → Type 0
IsBetweenDecidedAndWhole a b s bytes = IsBetween a b (so_far s (decided_frames bytes)) (file s (frames_of bytes))

-- ---- a stream that is read

-- The bytes written are at least what the bytes accepted before make, and at most what these make with a last piece;
-- that piece fits beside the undecided bytes.
pub record IsBroken (a b : Option (List ℕ)) (s : SetupValue) (front piece : List ℕ) : Type 0 where
  pub between : IsBetween a b (so_far s (decided_frames front)) (so_far s (decided_frames (front ++ piece)))
  pub near : (length front - decided front) + length piece ≤ longest_frame

-- the bytes read split into those accepted and a last piece at which the writer failed
abbrev pub FailedWriting : (r r' a b : Option (List ℕ)) → SetupValue → Type 0
FailedWriting r r' a b s =
    (front : List ℕ) × (piece : List ℕ) × Consumes r r' (front ++ piece) × IsBroken a b s front piece

-- all was read; the bytes written are at least what the decided frames make, and at most the whole file
abbrev pub FailedWritingAtEnd : (r r' a b : Option (List ℕ)) → SetupValue → Type 0
FailedWritingAtEnd r r' a b s =
    (front : List ℕ) × Consumes r r' front × IsAtEnd r' × IsBetweenDecidedAndWhole a b s front

-- ---- a stream that comes in pieces

-- the bytes of these pieces
abbrev pub joined_pieces : {Z : Type 0} → List (Vec ℕ Z) → List ℕ
joined_pieces pieces = flat_map (λ piece. piece.items) pieces
