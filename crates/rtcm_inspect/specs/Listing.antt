-- What a command that lists a stream's frames has read and written.
use Rattle.std.specs.Prelude.{◌≡◌, ◌<◌, ◌≤◌, ℕ, Bool, true, false, List, ◌++◌, take, length, Option, Result, []}
use Rattle.std.specs.List.{flat_map}
use Rattle.std.specs.Io.KnownBytes.{Appends, Consumes, IsAtEnd}
use Rattle.devices.specs.Device.{Device, HasFailed, IsBetween}
use Rattle.rtcm_scan.specs.Frames.{Framed, frames_of}
use Rattle.rtcm_scan.specs.Decided.{decided_frames}
use Rattle.rtcm_scan.specs.Known.{known_frames}
use Rattle.devices.specs.Devices.{AreUntouched, Devices, Ends}
use Rattle.rtcm_inspect.specs.Devices.{ReadsStream, culprit}
use Rattle.rtcm_inspect.specs.declared.fault.InspectFault.{InspectFault}
use Rattle.rtcm_inspect.specs.declared.fault.InspectFault.TheVariants as faults
use Rattle.rtcm_inspect.specs.declared.listing.Listing.{Listing}
use Rattle.rtcm_inspect.specs.declared.listing.Listing.TheVariants.{Frames, Messages, AllMessages}
use Rattle.rtcm_inspect.specs.FrameLines.{frame_line}
use Rattle.rtcm_inspect.specs.ShowLines.{show_line}

-- the line of a frame
abbrev pub listing_line : Listing → Framed → List ℕ
listing_line Frames f = frame_line f
listing_line Messages f = show_line false f
listing_line AllMessages f = show_line true f

-- the lines of frames, one after the other
abbrev pub listing_lines : Listing → List Framed → List ℕ
listing_lines listing fs = flat_map (listing_line listing) fs

-- The devices were d and are d'. `lines` gives the lines of a list of frames.

-- the stream was read to its end, and the lines of its frames were written
abbrev pub ListsAll : {R W : Type 0} → (List Framed → List ℕ) → (d d' : Devices R W) → Type 0
ListsAll lines d d' = ReadsStream d d' (λ b. Appends d.writer.written d'.writer.written (lines (frames_of b)))

-- some bytes were read, and the lines of the frames that they decide were written
abbrev pub ListsDecided : {R W : Type 0} → (List Framed → List ℕ) → (d d' : Devices R W) → Type 0
ListsDecided lines d d' = (b : List ℕ) × Consumes d.reader.unread d'.reader.unread b
    × Appends d.writer.written d'.writer.written (lines (decided_frames b))

-- more bytes were read than the limit allows, and the lines of the frames that those up to it decide were written
abbrev pub ListsToLimit : {R W : Type 0} → ℕ → (List Framed → List ℕ) → (d d' : Devices R W) → Type 0
ListsToLimit limit lines d d' = (b : List ℕ) × Consumes d.reader.unread d'.reader.unread b × (limit < length b)
    × Appends d.writer.written d'.writer.written (lines (decided_frames (take limit b)))

-- the largest number of bytes read at a time
abbrev pub piece_bytes : ℕ
piece_bytes = 65536

-- The bytes read end in one such piece. At least the lines of the frames that the bytes before it decide
-- were written, and at most those of the frames that all bytes read decide or, at the end of the stream, have.
pub record ListsPart {R W : Type 0} (lines : List Framed → List ℕ) (d d' : Devices R W) : Type 0 where
  pub front : List ℕ
  pub piece : List ℕ
  pub ended : Bool
  pub consumes : Consumes d.reader.unread d'.reader.unread (front ++ piece)
  pub few : length piece ≤ piece_bytes
  pub at_end : ended ≡ true → IsAtEnd d'.reader.unread
  pub between : IsBetween d.writer.written d'.writer.written (lines (decided_frames front)) (lines (known_frames ended (front ++ piece)))

-- What a listing of at most `limit` bytes has read and written when it was stopped by a fault. Nothing waits in the
-- writer except at `Write`.
abbrev pub StopsListing : {R W : Type 0} → ℕ → (List Framed → List ℕ) → (d d' : Devices R W) → InspectFault → Type 0
StopsListing limit lines d d' faults.Read = ListsDecided lines d d' × (d'.writer.waiting ≡ [])
StopsListing limit lines d d' faults.Write = ListsPart lines d d'
StopsListing limit lines d d' faults.TooLong = ListsToLimit limit lines d d' × (d'.writer.waiting ≡ [])
StopsListing limit lines d d' faults.Memory = AreUntouched d d'
StopsListing limit lines d d' other = ⊥

-- how such a listing ended
abbrev pub EndsListing : {A R W : Type 0} → Result A InspectFault → ℕ → (List Framed → List ℕ) → (d d' : Devices R W)
    → Type 0
EndsListing result limit lines d d' =
    Ends culprit result d d' (λ _. ListsAll lines d d') (StopsListing limit lines d d')

-- ---- a listing as a consumer of frames

-- The device o0 after the frames ps became o after the frames fs: the lines of the frames between were written, and no
-- call failed.
pub record Lists {W : Type 0} (held : W → Option (List ℕ)) (k0 : Listing) (o0 : Device W) (ps : List Framed)
    (k : Listing) (o : Device W) (fs : List Framed) : Type 0 where
  pub same : k ≡ k0
  pub out : (w : Option (List ℕ)) → Appends w (held o0.inner) (listing_lines k0 ps)
      → Appends w (held o.inner) (listing_lines k0 fs)
  pub fine : o.failures ≡ o0.failures

-- One call failed: at least the lines of fs were written, and at most those of gs.
pub record ListsUpTo {W : Type 0} (held : W → Option (List ℕ)) (k0 : Listing) (o0 : Device W) (ps : List Framed)
    (k : Listing) (o : Device W) (fs gs : List Framed) : Type 0 where
  pub out : (w : Option (List ℕ)) → Appends w (held o0.inner) (listing_lines k0 ps)
      → IsBetween w (held o.inner) (listing_lines k0 fs) (listing_lines k0 gs)
  pub failed : HasFailed o0.failures o.failures
