-- The state of a framer that contracts cite, and the streams that it may have accepted.
use Rattle.std.specs.Prelude.{◌≡◌, ℕ, ◌+◌, ◌-◌, ◌^◌, ◌<◌, ◌≤◌, Bool, false, List, [], ◌∷◌, ◌++◌, length, drop}
use Rattle.std.specs.Prelude.{replicate}
use Rattle.std.specs.List.{sum_by}
use Rattle.rtcm_scan.specs.Frame.{begins_frame, is_open}
use Rattle.rtcm_scan.specs.Frames.{Framed, IsFrameOf, frame_end}
use Rattle.rtcm_bits.specs.Prefix.{IsPrefix}
use Rattle.rtcm_scan.specs.Known.{known_frames}
use Rattle.rtcm_bits.specs.Window.{WindowValue}

-- limit: the largest number of bytes accepted; taken: the number of bytes accepted; held: the held bytes; has_ended: no
-- byte follows; is_ready: no byte was accepted since everything was decided; skipped: the number of dropped bytes that
-- are in no frame; tried: the number of held bytes that were examined as a candidate; looks: the number of looks at
-- each held byte; examined: the number of all looks; most: the largest number of looks at any single byte
pub record FramerValue : Type 0 where
  pub limit : ℕ
  pub taken : ℕ
  pub held : List ℕ
  pub has_ended : Bool
  pub is_ready : Bool
  pub skipped : ℕ
  pub tried : ℕ
  pub looks : List ℕ
  pub examined : ℕ
  pub most : ℕ

-- the largest number of bytes of a stream
abbrev pub most_bytes : ℕ
most_bytes = 2 ^ 48

-- the state with these parts
abbrev pub scan_of : ℕ → ℕ → WindowValue → Bool → Bool → ℕ → ℕ → FramerValue
scan_of limit place w has_ended is_ready skipped tried =
    record {
      limit = limit;
      taken = place + length w.bytes;
      held = w.bytes;
      has_ended = has_ended;
      is_ready = is_ready;
      skipped = skipped;
      tried = tried;
      looks = w.looks;
      examined = w.examined;
      most = w.most;
    }

-- the window of the framer
abbrev pub window_of : FramerValue → WindowValue
window_of v = record { bytes = v.held; looks = v.looks; examined = v.examined; most = v.most }

-- with other counts, and a candidate of which `tried` bytes were examined
abbrev pub with_looks : FramerValue → WindowValue → ℕ → FramerValue
with_looks v w tried = record v { looks = w.looks; examined = w.examined; most = w.most; tried = tried }

-- with another window, and a candidate of which `tried` bytes were examined
abbrev pub with_window : FramerValue → WindowValue → ℕ → FramerValue
with_window v w tried =
    record v { held = w.bytes; looks = w.looks; examined = w.examined; most = w.most; tried = tried }

-- with these further bytes, without a look
abbrev pub with_bytes : FramerValue → List ℕ → FramerValue
with_bytes v bytes =
    record v {
      taken = v.taken + length bytes;
      held = v.held ++ bytes;
      looks = v.looks ++ replicate (length bytes) 0;
      is_ready = false;
    }

-- the place of the first held byte
abbrev pub first_held : FramerValue → ℕ
first_held v = v.taken - length v.held

-- no frame begins at the front, and before the end none can
pub record IsPassed (has_ended : Bool) (s : List ℕ) : Type 0 where
  pub none : begins_frame s ≡ false
  pub closed : has_ended ≡ false → is_open s ≡ false

abbrev pub AllPassed : Bool → List ℕ → ℕ → ℕ → Type 0
AllPassed has_ended b from to = (q : ℕ) → from ≤ q → q < to → IsPassed has_ended (drop q b)

-- from one place up to another, b has these frames, and the places between them are passed
abbrev pub Scanned : Bool → List ℕ → ℕ → ℕ → List Framed → Type 0
Scanned has_ended b from to [] = (from ≤ to) × AllPassed has_ended b from to
Scanned has_ended b from to (f ∷ fs) =
    (from ≤ f.offset) × AllPassed has_ended b from f.offset × IsFrameOf b f × Scanned has_ended b (frame_end f) to fs

-- the framer has accepted b, and returned these frames of it, a prefix of the known frames
pub record HasFramed (v : FramerValue) (b : List ℕ) (fs : List Framed) : Type 0 where
  pub taken : v.taken ≡ length b
  pub held : v.held ≡ drop (first_held v) b
  pub fits : length v.held ≤ v.taken
  pub scanned : Scanned v.has_ended b 0 (first_held v) fs
  pub first : IsPrefix fs (known_frames v.has_ended b)
  pub skipped : v.skipped + sum_by (λ f. length f.message + 6) fs ≡ first_held v

-- no byte was accepted, and no more are held than before
pub record IsScannedOn (v v' : FramerValue) : Type 0 where
  pub held : length v'.held ≤ length v.held
  pub limit : v'.limit ≡ v.limit
  pub taken : v'.taken ≡ v.taken
  pub ended : v'.has_ended ≡ v.has_ended
