-- Messages, their encodings in frames, and the messages read back.
use Rattle.std.specs.Prelude.{◌≡◌, ℕ, false, List, [], ◌∷◌, map, ⊤}
use Rattle.std.specs.List.{flat_map}
use Rattle.rtcm_bits.specs.Bits.{bits_of}
use Rattle.rtcm_bits.specs.FrameOf.{frame_bytes}
use Rattle.rtcm_scan.specs.Frames.{Framed, AreFrames}
use Rattle.rtcm_scan.specs.Local.{placed}
use Rattle.rtcm_msg.specs.declared.message.Message.{Message}
use Rattle.rtcm_msg.specs.Encoding.{IsEncoding, IsMessage, ReadsMessage, is_other}

-- a message whose layout is known
abbrev pub IsKnown : Message → Type 0
IsKnown v = IsMessage v × (is_other v ≡ false)

-- the byte lists encode the messages, one for one
abbrev pub AreEncoded : List (List ℕ) → List Message → Type 0
AreEncoded [] [] = ⊤
AreEncoded [] (v ∷ vs) = ⊥
AreEncoded (bytes ∷ es) [] = ⊥
AreEncoded (bytes ∷ es) (v ∷ vs) = IsKnown v × IsEncoding bytes v × AreEncoded es vs

-- the bytes are read as this message, and as no other
pub record IsReadAs (bytes : List ℕ) (v : Message) : Type 0 where
  pub reads : ReadsMessage (bits_of bytes) v
  pub only : (w : Message) → ReadsMessage (bits_of bytes) w → w ≡ v

-- the frames are read as the messages, one for one
abbrev pub AreReadAs : List Framed → List Message → Type 0
AreReadAs [] [] = ⊤
AreReadAs [] (v ∷ vs) = ⊥
AreReadAs (f ∷ fs) [] = ⊥
AreReadAs (f ∷ fs) (v ∷ vs) = IsReadAs f.message v × AreReadAs fs vs

-- The joined frames of encoded messages have exactly these frames, one after the other from place 0 on, with the
-- encodings as their messages; and these are read back as the messages.
abbrev pub ReadsBack : List (List ℕ) → List Message → Type 0
ReadsBack es vs = AreFrames (flat_map frame_bytes es) (placed 0 es) × (map (λ f. f.message) (placed 0 es) ≡ es)
    × AreReadAs (placed 0 es) vs

-- each message is of a known layout
abbrev pub AreKnown : List Message → Type 0
AreKnown [] = ⊤
AreKnown (v ∷ vs) = IsKnown v × AreKnown vs
