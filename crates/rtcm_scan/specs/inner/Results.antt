-- What the calls of a framer return.
use Rattle.std.specs.Prelude.{◌≡◌, ℕ, Bool, true, false, ◌+◌, ◌<◌, ◌≤◌, nat_lt, min, List, [], length, take}
use Rattle.std.specs.Prelude.{slice_index, Result, Ok, Err, OnOk, OnErr, if◌then◌else◌}
use Rattle.rtcm_scan.specs.declared.framer.Frame.{Frame}
use Rattle.rtcm_scan.specs.declared.framer.ScanFault.{ScanFault}
use Rattle.rtcm_scan.specs.declared.framer.ScanFault.TheVariants.{TooLong, Ended}
use Rattle.rtcm_scan.specs.declared.front.Decision.{Decision}
use Rattle.rtcm_scan.specs.declared.front.Decision.TheVariants.{Open, Passed, Found}
use Rattle.rtcm_scan.specs.Frame.{begins_frame, is_open, frame_length}
use Rattle.rtcm_scan.specs.Frames.{Framed}
use Rattle.rtcm_scan.specs.declared.candidate.Candidate.{Candidate}
use Rattle.rtcm_scan.specs.inner.Candidate.{HasTaken, wanted_by}
use Rattle.rtcm_scan.specs.Examined.{AcceptsBytes}
use Rattle.rtcm_scan.specs.Scan.{FramerValue, with_bytes}

-- a frame that was returned
abbrev pub framed : Frame → Framed
framed f = record { offset = f.offset; message = f.message.items }

-- a frame given by its offset and its message
abbrev pub frame_at : ℕ → List ℕ → Framed
frame_at offset message = record { offset = offset; message = message }

-- a framer that has accepted nothing
abbrev pub new_scan : ℕ → FramerValue
new_scan limit =
    record {
      limit = limit;
      taken = 0;
      held = [];
      has_ended = false;
      is_ready = true;
      skipped = 0;
      tried = 0;
      looks = [];
      examined = 0;
      most = 0;
    }

-- what a push of n bytes returns
abbrev pub push_result : FramerValue → ℕ → Result (Unit {0}) ScanFault
push_result v n = (if v.has_ended then Err Ended else if nat_lt v.limit (v.taken + n) then Err TooLong else Ok tt)

-- a push of these bytes: all were accepted, or the framer is unchanged
pub record Pushes (result : Result (Unit {0}) ScanFault) (v v' : FramerValue) (bytes : List ℕ) : Type 0 where
  pub answer : result ≡ push_result v (length bytes)
  pub history : OnOk result (AcceptsBytes v v' bytes)
  pub ok : OnOk result (v' ≡ with_bytes v bytes)
  pub err : OnErr result (v' ≡ v)
  pub long : OnErr result (v.has_ended ≡ false → v.limit < v.taken + length bytes)
  pub within : v'.taken ≤ v'.limit
  pub same : (v'.limit ≡ v.limit) × (v'.has_ended ≡ v.has_ended)

-- the decision if bytes are missing
abbrev pub if_missing : Bool → Decision
if_missing true = Passed
if_missing false = Open

-- the decision about the front of s
unfoldable pub decision : Bool → List ℕ → Decision
decision has_ended s =
    (if begins_frame s then Found (frame_length s) else if is_open s then if_missing has_ended else Passed)

-- the decision about a candidate that has read the bytes at the front that decide it, as far as they are held
abbrev pub ComesTo : Candidate → Bool → Decision → Type 0
ComesTo c has_ended d =
    (s : List ℕ) → 0 < length s → ((i : ℕ) → slice_index s i < 256) → HasTaken c (take c.count s)
    → c.count ≡ min (wanted_by s) (length s)
    → d ≡ decision has_ended s
