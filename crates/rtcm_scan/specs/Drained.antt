-- A framer after everything that can be decided was decided.
use Rattle.std.specs.Prelude.{◌≡◌, ◌<◌, ℕ, Bool, true, false, List, Option, IfSome, IfNone, drop, length}
use Rattle.rtcm_bits.specs.FrameOf.{longest_frame}
use Rattle.rtcm_scan.specs.Frames.{Framed, frames_of}
use Rattle.rtcm_scan.specs.Decided.{skipped_before}
use Rattle.rtcm_scan.specs.Known.{known_place, known_frames}
use Rattle.rtcm_scan.specs.Scan.{FramerValue, IsScannedOn}
use Rattle.rtcm_scan.specs.Looks.{examined, most, examined_now, most_now}
use Rattle.rtcm_scan.specs.Examined.{HasExamined}

-- the counts of all that is known
abbrev pub known_examined : Bool → List ℕ → ℕ
known_examined true b = examined b
known_examined false b = examined_now b

abbrev pub known_most : Bool → List ℕ → ℕ
known_most true b = most b
known_most false b = most_now b

-- these are all known frames, the bytes from the first undecided place on are held, `skipped` is the number of the
-- places before it that are in no frame, and the counts are those of all that is known
pub record IsDrained (v : FramerValue) (b : List ℕ) (fs : List Framed) : Type 0 where
  pub frames : fs ≡ known_frames v.has_ended b
  pub held : v.held ≡ drop (known_place v.has_ended b) b
  pub skipped : v.skipped ≡ skipped_before (known_place v.has_ended b) (frames_of b)
  pub examined : v.examined ≡ known_examined v.has_ended b
  pub most : v.most ≡ known_most v.has_ended b

-- for all bytes accepted and frames returned before, these are still all, and everything that can be decided is decided
abbrev pub DecidesAll : FramerValue → FramerValue → Type 0
DecidesAll old new =
    (b : List ℕ) (fs : List Framed) → HasExamined old b fs → HasExamined new b fs × IsDrained new b fs

-- a call that finds no further frame: everything that can be decided is decided, and bytes may be pushed
pub record FindsNone (old new : FramerValue) : Type 0 where
  pub decided : DecidesAll old new
  pub ready : new.is_ready ≡ true
  pub room : length new.held < longest_frame

-- a call that seeks a frame: Found holds for what it returns, or it finds no further frame; no byte was accepted
pub record SeeksFrame {A : Type 0} (result : Option A) (old new : FramerValue) (Found : A → Type 0) : Type 0 where
  pub some : IfSome result Found
  pub none : IfNone result (FindsNone old new)
  pub same : IsScannedOn old new
