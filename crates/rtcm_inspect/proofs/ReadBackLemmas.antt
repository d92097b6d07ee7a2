-- Messages, their encodings in frames, and the messages read back.
use Rattle.rtcm_inspect.proofs.Names.{one_value, zero_read, ◌≡◌, ◌∙◌, sym, ap, subst, refl, arith, ℕ, suc, zero, ◌+◌, ◌*◌, ◌/◌, ◌<◌, ◌≤◌, Bool, false, List, [], ◌∷◌, ◌++◌, length, take, drop, map, replicate, All, get_or, flat_map, length-append, length-take, length-drop, take-append-drop, bits_of, filled, missing, uint, number, frame_bytes, longest_message, longest_message_bits, Framed, AreFrames, frames_of, placed, Message, IsEncoding, IsMessage, ReadsMessage, message_bits, AreEncoded, AreReadAs, ReadsBack, AreKnown}
use lib.ListN.{length-replicate}
use Rattle.rtcm_bits.proofs.BitLaws.{length-bits_of, uint-number}
use Rattle.rtcm_msg.proofs.LengthLaws.{message_short}

length-filled : (bits : List Bool) → length (filled bits) ≡ length bits + missing (length bits)
length-filled bits = length-append bits (replicate (missing (length bits)) false) ∙ ap (λ (n : ℕ). length bits + n) (length-replicate (missing (length bits)) false)

-- an encoding fits in a frame
encoding_short : (bytes : List ℕ) (v : Message) → IsMessage v → IsEncoding bytes v → length bytes ≤ longest_message
encoding_short bytes v is e =
    let bits : 8 * length bytes ≡ length (message_bits v 0) + missing (length (message_bits v 0)) = sym (length-bits_of bytes) ∙ ap length e ∙ length-filled (message_bits v 0) in
    whole_bytes (length bytes) (length (message_bits v 0)) bits (message_short v is)
  where
    whole_bytes : (k n : ℕ) → 8 * k ≡ n + missing n → n ≤ longest_message_bits → k ≤ longest_message
    whole_bytes k n e h = omega arith

encodings_short : (es : List (List ℕ)) (vs : List Message) → AreEncoded es vs → (k : ℕ) (d : List ℕ) → k < length es → length (get_or es k d) ≤ longest_message
encodings_short [] vs h k d less = absurd (omega arith)
encodings_short (e ∷ es) [] h k d less = absurd h
encodings_short (e ∷ es) (v ∷ vs) h zero d less = encoding_short e v h.0.0 h.1
encodings_short (e ∷ es) (v ∷ vs) h (suc k) d less = encodings_short es vs h.2 k d (omega arith)

messages_placed : (p : ℕ) (es : List (List ℕ)) → map (λ (f : Framed). f.message) (placed p es) ≡ es
messages_placed p [] = refl
messages_placed p (e ∷ es) = ap (λ (l : List (List ℕ)). e ∷ l) (messages_placed (p + (length e + 6)) es)

read_as : (p : ℕ) (es : List (List ℕ)) (vs : List Message) → AreEncoded es vs → AreReadAs (placed p es) vs
read_as p [] [] h = tt
read_as p [] (v ∷ vs) h = absurd h
read_as p (e ∷ es) [] h = absurd h
read_as p (e ∷ es) (v ∷ vs) h =
    let reads : ReadsMessage (bits_of e) v = subst (λ (bits : List Bool). ReadsMessage bits v) (sym h.1) (zero_read v h.0.0 h.0.1) in
    (record { reads = reads; only = λ w r. one_value (bits_of e) w v r reads }, read_as (p + (length e + 6)) es vs h.2)

pub reads_back : ((b : List ℕ) → AreFrames b (frames_of b))
    → ((messages : List (List ℕ)) → All (λ (m : List ℕ). length m ≤ longest_message) messages → frames_of (flat_map frame_bytes messages) ≡ placed 0 messages)
    → (es : List (List ℕ)) (vs : List Message) → AreEncoded es vs → ReadsBack es vs
reads_back frames joined es vs h =
    let are : AreFrames (flat_map frame_bytes es) (placed 0 es) = subst (λ (fs : List Framed). AreFrames (flat_map frame_bytes es) fs) (joined es (encodings_short es vs h)) (frames (flat_map frame_bytes es)) in
    (are, messages_placed 0 es, read_as 0 es vs h)

-- the bytes of 8 k bits
bytes_from : (k : ℕ) (bits : List Bool) → length bits ≡ 8 * k → (bytes : List ℕ) × (bits_of bytes ≡ bits)
unfolding bits_of
bytes_from zero [] h = ([], refl)
bytes_from zero (b ∷ bits) h = absurd (omega (arith, h))
bytes_from (suc k) bits h =
    let front : length (take 8 bits) ≡ 8 = omega (arith, length-take 8 bits, h) in
    let rest = bytes_from k (drop 8 bits) (omega (arith, length-drop 8 bits, h)) in
    let byte : uint 8 (number (take 8 bits)) ≡ take 8 bits = subst (λ (n : ℕ). uint n (number (take 8 bits)) ≡ take 8 bits) front (uint-number (take 8 bits) 0) in
    (number (take 8 bits) ∷ rest.0, ap (λ (l : List Bool). uint 8 (number (take 8 bits)) ++ l) rest.1 ∙ ap (λ (l : List Bool). l ++ drop 8 bits) byte ∙ take-append-drop 8 bits)

pub are_encoded : (vs : List Message) → AreKnown vs → (es : List (List ℕ)) × AreEncoded es vs
are_encoded [] h = ([], tt)
are_encoded (v ∷ vs) h =
    let bits : List Bool = message_bits v 0 in
    let whole = eighth (length bits) in
    let bytes = bytes_from whole.0 (filled bits) (length-filled bits ∙ whole.1) in
    let rest = are_encoded vs h.1 in
    (bytes.0 ∷ rest.0, (h.0, bytes.1, rest.1))
  where
    eighth : (n : ℕ) → (k : ℕ) × (n + missing n ≡ 8 * k)
    eighth n = ((n + missing n) / 8, omega arith)
