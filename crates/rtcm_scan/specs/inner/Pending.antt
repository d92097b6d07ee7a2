-- The candidate at the front after it is examined.
use Rattle.std.specs.Prelude.{◌≡◌, ℕ, ◌+◌, ◌-◌, min, true, List, length}
use Rattle.rtcm_bits.specs.Window.{looked_through, without_front}
use Rattle.rtcm_scan.specs.Examined.{KeepsHistory}
use Rattle.rtcm_scan.specs.Frame.{begins_frame, frame_length}
use Rattle.rtcm_scan.specs.inner.Candidate.{wanted_by}
use Rattle.rtcm_scan.specs.Scan.{FramerValue, window_of, with_window, with_looks}

-- the number of bytes that decide the place at the front of s, as far as they are held
abbrev pub asked : List ℕ → ℕ
asked s = min (wanted_by s) (length s)

-- the candidate at the front was examined as far as its bytes are held
abbrev pub with_candidate_examined : FramerValue → FramerValue
with_candidate_examined v = with_looks v (looked_through (window_of v) v.tried (asked v.held - v.tried)) (asked v.held)

-- the byte at the front is dropped, and is in no frame
abbrev pub passed : FramerValue → FramerValue
passed v = record (with_window v (without_front (window_of v) 1) 0) { skipped = v.skipped + 1 }

-- a frame of `size` bytes begins at the front, and was examined
abbrev pub HasFrame : FramerValue → ℕ → Type 0
HasFrame v size = (begins_frame v.held ≡ true) × (size ≡ frame_length v.held) × (v.tried ≡ asked v.held)

-- bytes in no frame were dropped until a frame of `size` bytes begins at the front
pub record ComesToFrame (old new : FramerValue) (size : ℕ) : Type 0 where
  pub begins : HasFrame new size
  pub history : KeepsHistory old new
  pub waits : new.is_ready ≡ old.is_ready
