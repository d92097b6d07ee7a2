-- The known part of a stream: all of it after its end, before that the part that its bytes decide.
use Rattle.std.specs.Prelude.{ℕ, Bool, true, false, List, length}
use Rattle.rtcm_scan.specs.Frames.{Framed, frames_of}
use Rattle.rtcm_scan.specs.Decided.{decided, decided_frames}

-- the place up to which the bytes b are known
abbrev pub known_place : Bool → List ℕ → ℕ
known_place true b = length b
known_place false b = decided b

-- the frames that begin before it
abbrev pub known_frames : Bool → List ℕ → List Framed
known_frames true b = frames_of b
known_frames false b = decided_frames b
