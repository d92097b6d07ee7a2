-- The part of a stream that is decided by the bytes accepted.
use Rattle.std.specs.Prelude.{ℕ, zero, suc, ◌-◌, ◌&&◌, min, not, nat_lt, nat_le, Bool, List, [], ◌∷◌, ◌++◌, length}
use Rattle.std.specs.Prelude.{drop, if◌then◌else◌}
use Rattle.std.specs.List.{filter, list_any, position_or_len, count_by}
use Rattle.rtcm_bits.specs.FrameOf.{longest_frame}
use Rattle.rtcm_scan.specs.Frame.{has_preamble, frame_length, is_open}
use Rattle.rtcm_scan.specs.Frames.{Framed, frame_end, frames_of}

-- the places from 0 up to n
unfoldable pub places : ℕ → List ℕ
places zero = []
places (suc n) = places n ++ n ∷ []

-- whether a place is after the first byte of a frame and before its end
abbrev pub is_inside : ℕ → Framed → Bool
is_inside p f = nat_lt f.offset p && nat_lt p (frame_end f)

-- a place that begins a frame or is in none
unfoldable pub is_tried : List ℕ → ℕ → Bool
is_tried b p = not (list_any (is_inside p) (frames_of b))

-- the tried places
unfoldable pub tried : List ℕ → List ℕ
tried b = filter (is_tried b) (places (length b))

-- the least tried place at which bytes of a frame are missing, or the end
unfoldable pub decided : List ℕ → ℕ
decided b = position_or_len (λ p. is_tried b p && is_open (drop p b)) (places (length b))

-- the largest number of undecided bytes, one fewer than the longest frame has
abbrev pub most_undecided : ℕ
most_undecided = longest_frame - 1

-- the frames that begin before a place
unfoldable pub frames_before : ℕ → List Framed → List Framed
frames_before p fs = filter (λ f. nat_lt f.offset p) fs

-- the frames that are decided
unfoldable pub decided_frames : List ℕ → List Framed
decided_frames b = frames_before (decided b) (frames_of b)

-- whether a place is in a frame
abbrev pub is_within : ℕ → Framed → Bool
is_within p f = nat_le f.offset p && nat_lt p (frame_end f)

-- the number of places before p that are in none of these frames
abbrev pub skipped_before : ℕ → List Framed → ℕ
skipped_before p fs = count_by (λ q. not (list_any (is_within q) fs)) (places p)

-- the number of bytes examined when place p is tried: those of the frame that may begin there, as far as they are in b,
-- or one byte
abbrev pub cost : List ℕ → ℕ → ℕ
cost b p = (if has_preamble (drop p b) then min (frame_length (drop p b)) (length (drop p b)) else 1)
