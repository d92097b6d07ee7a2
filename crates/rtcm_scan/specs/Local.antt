-- Damage stays local.
use Rattle.std.specs.Prelude.{◌≡◌, ℕ, ◌+◌, ◌<◌, ◌≤◌, ◌++◌, true, List, [], ◌∷◌, length, take, drop, slice_index_or}
use Rattle.std.specs.List.{All, Contains, flat_map}
use Rattle.rtcm_bits.specs.FrameOf.{frame_bytes, longest_message}
use Rattle.rtcm_scan.specs.Frame.{begins_frame}
use Rattle.rtcm_scan.specs.Frames.{Framed, frames_of}
use Rattle.rtcm_scan.specs.Decided.{most_undecided}

-- any bytes, and the frames of these messages after them
abbrev pub stream_after : List ℕ → List (List ℕ) → List ℕ
stream_after bytes messages = bytes ++ flat_map frame_bytes messages

-- the place at which the frame of the message with number k begins
abbrev pub frame_place : List ℕ → List (List ℕ) → ℕ → ℕ
frame_place bytes messages k = length (stream_after bytes (take k messages))

-- each message fits in a frame
abbrev pub FitFrames : List (List ℕ) → Type 0
FitFrames messages = All (λ m. length m ≤ longest_message) messages

-- after the bytes and before the frame with number k, no frame begins except these frames
abbrev pub HasNoOtherFrame : List ℕ → List (List ℕ) → ℕ → Type 0
HasNoOtherFrame bytes messages k = (q : ℕ) → length bytes ≤ q → q < frame_place bytes messages k
    → begins_frame (drop q (stream_after bytes messages)) ≡ true
    → (i : ℕ) × (i < k) × (q ≡ frame_place bytes messages i)

-- if the frame with number k begins at least the largest number of undecided bytes after the end of these bytes, it and
-- all later frames are found
abbrev pub StaysLocal : List ℕ → List (List ℕ) → ℕ → Type 0
StaysLocal bytes messages k = FitFrames messages → k < length messages
    → length bytes + most_undecided ≤ frame_place bytes messages k → HasNoOtherFrame bytes messages k
    → (i : ℕ) → k ≤ i → i < length messages
    → Contains (frames_of (stream_after bytes messages))
    (record { offset = frame_place bytes messages i; message = slice_index_or messages i [] })

-- the frames of these messages, each after the one before, from a place on
abbrev pub placed : ℕ → List (List ℕ) → List Framed
placed p [] = []
placed p (m ∷ ms) = record { offset = p; message = m } ∷ placed (p + (length m + 6)) ms
