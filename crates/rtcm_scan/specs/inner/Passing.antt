-- The frames that a framer passes to a sink, for every history.
use Rattle.std.specs.Prelude.{◌≡◌, ℕ, ◌+◌, ◌-◌, ◌<◌, ◌≤◌, max, ⊤, Bool, true, false, List, ◌++◌, take, length, Option, Result}
use Rattle.std.specs.Prelude.{Ok, Err, OnOk, IfErr}
use Rattle.devices.specs.Device.{Device, HasFailed}
use Rattle.std.specs.Io.KnownBytes.{Consumes, IsAtEnd}
use Rattle.rtcm_bits.specs.Prefix.{IsPrefix}
use Rattle.rtcm_scan.specs.Frames.{Framed}
use Rattle.rtcm_scan.specs.Drained.{IsDrained}
use Rattle.rtcm_scan.specs.Examined.{HasExamined, HasExaminedSome}
use Rattle.rtcm_bits.specs.FrameOf.{longest_frame}
use Rattle.rtcm_scan.specs.Decided.{decided}
use Rattle.rtcm_scan.specs.Known.{known_frames}
use Rattle.rtcm_scan.specs.Scan.{FramerValue}
use Rattle.rtcm_scan.specs.declared.feed.StreamFault.{StreamFault}
use Rattle.rtcm_scan.specs.declared.feed.StreamFault.TheVariants.{Read, TooLong, Sink}

-- A relation of a sink and an output after the first frames with those after the second frames.
abbrev pub Coming : (S O : Type 0) → Type 1
Coming S O = S → O → List Framed → S → O → List Framed → Type 0

-- The same for a sink that failed: it processed the second frames, and at most a part of the third.
abbrev pub Breaking : (S O : Type 0) → Type 1
Breaking S O = S → O → List Framed → S → O → List Framed → List Framed → Type 0

-- A framer accepted b and passed on fs, and the sink processed them.
pub record HasPassed {S O : Type 0} (took : Coming S O) (v : FramerValue) (s0 : S) (o0 : O) (ps : List Framed) (s : S)
    (o : O) (b : List ℕ) (fs : List Framed) : Type 0 where
  pub framer : HasExamined v b fs
  pub taken : took s0 o0 ps s o fs

-- A framer accepted b and passed on all known frames of it, and the sink processed them.
pub record HasPassedAll {S O : Type 0} (took : Coming S O) (v : FramerValue) (s0 : S) (o0 : O) (ps : List Framed)
    (s : S) (o : O) (b : List ℕ) : Type 0 where
  pub passed : HasPassed took v s0 o0 ps s o b (known_frames v.has_ended b)
  pub drained : IsDrained v b (known_frames v.has_ended b)

-- The sink failed: it processed at least the frames `least`, and at most the known frames of b.
pub record HasBroken {S O : Type 0} (broke : Breaking S O) (ended : Bool) (s0 : S) (o0 : O) (ps : List Framed) (s : S)
    (o : O) (least : List Framed) (b : List ℕ) : Type 0 where
  pub taken : List Framed
  pub reached : List Framed
  pub first : IsPrefix least taken
  pub known : IsPrefix reached (known_frames ended b)
  pub broken : broke s0 o0 ps s o taken reached

-- ---- what a call does, for everything accepted before

-- all known frames were passed on
abbrev pub PassesKnown : {S O : Type 0} → Coming S O → FramerValue → S → O → FramerValue → S → O → Type 0
PassesKnown {S} {O} took v s o v' s' o' = (s0 : S) (o0 : O) (ps : List Framed) (b : List ℕ) (fs : List Framed)
    → HasPassed took v s0 o0 ps s o b fs → HasPassedAll took v' s0 o0 ps s' o' b

-- all known frames were passed on, where those of a ready framer were before, unless the stream has ended
abbrev pub PassesPushed : {S O : Type 0} → Coming S O → FramerValue → S → O → FramerValue → S → O → Type 0
PassesPushed {S} {O} took v s o v' s' o' = (s0 : S) (o0 : O) (ps : List Framed) (b : List ℕ) (fs : List Framed)
    → HasPassed took v s0 o0 ps s o b fs → (v.is_ready ≡ true → v.has_ended ≡ false → HasPassedAll took v s0 o0 ps s o b)
    → HasPassedAll took v' s0 o0 ps s' o' b

-- the sink failed at one of the known frames, if `ended` at one of those known at the end
abbrev pub BreaksKnown : {S O : Type 0} → Coming S O → Breaking S O → Bool → FramerValue → S → O → S → O → Type 0
BreaksKnown {S} {O} took broke ended v s o s' o' =
    (s0 : S) (o0 : O) (ps : List Framed) (b : List ℕ) (fs : List Framed) → HasPassed took v s0 o0 ps s o b fs
    → HasBroken broke ended s0 o0 ps s' o' fs b

-- the next bytes were accepted, and the sink processed all known frames
abbrev pub Passes : {S O : Type 0} → Coming S O → FramerValue → S → O → FramerValue → S → O → List ℕ → Type 0
Passes {S} {O} took v s o v' s' o' next = (s0 : S) (o0 : O) (ps : List Framed) (b : List ℕ)
    → HasPassedAll took v s0 o0 ps s o b → HasPassedAll took v' s0 o0 ps s' o' (b ++ next)

-- the sink failed at a frame of these bytes: it processed at least the frames known before them, and at most those
-- known with them
abbrev pub Breaks : {S O : Type 0} → Coming S O → Breaking S O → FramerValue → S → O → S → O → List ℕ → Type 0
Breaks {S} {O} took broke v s o s' o' piece =
    (s0 : S) (o0 : O) (ps : List Framed) (b : List ℕ) → HasPassedAll took v s0 o0 ps s o b
    → HasBroken broke v.has_ended s0 o0 ps s' o' (known_frames v.has_ended b) (b ++ piece)

-- those of the next bytes that are within the framer's limit
abbrev pub up_to_limit : FramerValue → List ℕ → List ℕ
up_to_limit v next = take (v.limit - v.taken) next

-- the next bytes go over the limit, and were accepted up to it
pub record PassesToLimit {S O : Type 0} (took : Coming S O) (v : FramerValue) (s : S) (o : O) (v' : FramerValue)
    (s' : S) (o' : O) (next : List ℕ) : Type 0 where
  pub passes : Passes took v s o v' s' o' (up_to_limit v next)
  pub full : v'.taken ≡ v.limit
  pub over : v.limit < v.taken + length next

-- the first n bytes of a piece were accepted, all of them or those up to the limit, and the sink processed all known
-- frames
pub record TakesPiece {S O : Type 0} (took : Coming S O) (v : FramerValue) (s : S) (o : O) (v' : FramerValue) (s' : S)
    (o' : O) (piece : List ℕ) (n : ℕ) : Type 0 where
  pub passes : Passes took v s o v' s' o' (take n piece)
  pub bound : n ≤ length piece
  pub taken : v'.taken ≡ v.taken + n
  pub full : n < length piece → v'.taken ≡ v.limit
  pub ready : v'.is_ready ≡ true

-- at most n more bytes were accepted, within the same limit, and the framer still has examined some stream
pub record Continues (v v' : FramerValue) (n : ℕ) : Type 0 where
  pub least : v.taken ≤ v'.taken
  pub most : v'.taken ≤ v.taken + n
  pub within : v'.taken ≤ v.limit
  pub limit : v'.limit ≡ v.limit
  pub ended : v'.has_ended ≡ v.has_ended
  pub some : HasExaminedSome v → HasExaminedSome v'

-- no further byte was accepted
pub record IsSameStream (v v' : FramerValue) : Type 0 where
  pub limit : v'.limit ≡ v.limit
  pub taken : v'.taken ≡ v.taken
  pub some : HasExaminedSome v → HasExaminedSome v'

-- ---- a stream that is read

-- some bytes were read, for which P holds
abbrev pub Reads : Option (List ℕ) → Option (List ℕ) → (List ℕ → Type 0) → Type 0
Reads r r' P = (front : List ℕ) × Consumes r r' front × P front

-- some bytes were read and accepted, and all known frames were passed on
abbrev pub ReadsOn : {S O : Type 0} → Coming S O → FramerValue → S → O → FramerValue → S → O → Option (List ℕ)
    → Option (List ℕ) → Type 0
ReadsOn took v s o v' s' o' r r' =
    Reads r r' (λ front. Passes took v s o v' s' o' front × (v'.taken ≡ v.taken + length front))

-- all was read, and all frames were passed on
abbrev pub PassesAll : {S O : Type 0} → Coming S O → FramerValue → S → O → FramerValue → S → O → Option (List ℕ)
    → Option (List ℕ) → Type 0
PassesAll took v s o v' s' o' r r' = Reads r r' (Passes took v s o v' s' o') × IsAtEnd r'

-- a piece of n bytes was read to the front of a buffer of `size` bytes, and fits into it beside the held bytes, if there
-- is room for one
pub record HasReadPiece (v : FramerValue) (r r' : Option (List ℕ)) (size : ℕ) (buffer : List ℕ) (n : ℕ) : Type 0 where
  pub consumes : Consumes r r' (take n buffer)
  pub at_end : n ≡ 0 → IsAtEnd r'
  pub within : n ≤ length buffer
  pub near : length v.held + n ≤ max size (length v.held + 1)

-- The bytes read split into some whose frames were passed on and a last piece at which the sink failed. The piece is
-- no longer than the buffer, and fits into it beside the undecided bytes, if a longest frame fits.
pub record BreaksAfter {S O : Type 0} (took : Coming S O) (broke : Breaking S O) (v : FramerValue) (s : S) (o : O)
    (v' : FramerValue) (s' : S) (o' : O) (most : ℕ) (r r' : Option (List ℕ)) : Type 0 where
  pub front : List ℕ
  pub piece : List ℕ
  pub consumes : Consumes r r' (front ++ piece)
  pub breaks : (s0 : S) (o0 : O) (ps : List Framed) (b : List ℕ) → HasPassedAll took v s0 o0 ps s o b
      → HasBroken broke v.has_ended s0 o0 ps s' o' (known_frames v.has_ended (b ++ front)) (b ++ (front ++ piece))
  pub near : (s0 : S) (o0 : O) (ps : List Framed) (b : List ℕ) → HasPassedAll took v s0 o0 ps s o b
      → (length (b ++ front) - decided (b ++ front)) + length piece ≤ max most longest_frame
  pub few : length piece ≤ most
  pub least : v.taken + length front ≤ v'.taken
  pub greatest : v'.taken ≤ v.taken + (length front + length piece)

-- The bytes read split into some whose frames were passed on and a last piece at which the sink failed; if `ended`, all
-- was read, and the sink failed at the frames known at the end.
pub record BreaksReading {S O : Type 0} (took : Coming S O) (broke : Breaking S O) (v : FramerValue) (s : S) (o : O)
    (s' : S) (o' : O) (most : ℕ) (r r' : Option (List ℕ)) : Type 0 where
  pub front : List ℕ
  pub piece : List ℕ
  pub ended : Bool
  pub consumes : Consumes r r' (front ++ piece)
  pub breaks : (s0 : S) (o0 : O) (ps : List Framed) (b : List ℕ) → HasPassedAll took v s0 o0 ps s o b
      → HasBroken broke ended s0 o0 ps s' o' (known_frames v.has_ended (b ++ front)) (b ++ (front ++ piece))
  pub few : length piece ≤ most
  pub at_end : ended ≡ true → IsAtEnd r'

-- the state of the sink, the framer and the buffer, of n bytes before and m after, when a call that reads pieces
-- returns
pub record IsReadingOn {S : Type 0} (can_take : S → Type 0) (s : S) (v v' : FramerValue) (n m : ℕ) : Type 0 where
  pub can : can_take s
  pub limit : v'.limit ≡ v.limit
  pub ended : v'.has_ended ≡ v.has_ended
  pub some : HasExaminedSome v → HasExaminedSome v'
  pub size : m ≡ n

-- ---- what holds at which fault

-- P at `Read`, Q at `TooLong`, and R at a fault of the sink
abbrev pub AtFault : {F : Type 0} → StreamFault F → (read long sink : Type 0) → Type 0
AtFault Read P Q R = P
AtFault TooLong P Q R = Q
AtFault (Sink fault) P Q R = R

-- P holds unless the sink failed
abbrev pub UnlessBroken : {A F : Type 0} → Result A (StreamFault F) → Type 0 → Type 0
UnlessBroken (Ok x) P = P
UnlessBroken (Err fault) P = AtFault fault P P ⊤

-- the reader failed once at `Read`, and otherwise not; its reads asked for at most n bytes at a time
abbrev pub CountsReads : {T A F : Type 0} → Result A (StreamFault F) → Device T → Device T → ℕ → Type 0
CountsReads result old new n =
    IfErr result
    (λ fault.
    AtFault fault (HasFailed old.failures new.failures) (new.failures ≡ old.failures) (new.failures ≡ old.failures))
    × OnOk result (new.failures ≡ old.failures) × (new.widest ≤ max old.widest n)
