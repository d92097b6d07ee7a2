-- Damage stays local.
use Rattle.rtcm_scan.proofs.Names.{common_steps, ℕ, ◌≡◌, ◌+◌, ◌-◌, ◌/◌, ◌%◌, ◌<◌, ◌≤◌, true, List, [], ◌∷◌, ◌++◌, length, take, drop, get_or, refl, sym, ap, ◌∙◌, arith, suc, zero, ⊎_elim, subst, eq-eqb, append_assoc, length-append, take-add, All, Contains, flat_map, cases_lt, and_from, le-leb, append-nil, take_at, drop_at, length-drop, drop_all, get_or-drop, take-append-drop, drop_more, All-head, All-tail, All-drop, Contains-append_right, flat_map-append, crc, frame_bytes, frame_header, three_bytes, begins_frame, message_length, frame_length, sent_check, framed_message, Framed, IsFrameOf, frame_end, frames_from, frames_of, stream_after, frame_place, HasNoOtherFrame, StaysLocal, placed, Scanned, longest_frame, longest_message, most_undecided}
use Rattle.rtcm_scan.proofs.ScanLemmas.{scanned_frames, scanned_all}
use Rattle.rtcm_scan.proofs.FrameLemmas.{length-message}
use Rattle.rtcm_scan.proofs.LawLemmas.{frames_scanned, same_frame}

length_claimed : (m rest : List ℕ) → length m ≤ longest_message → message_length (frame_bytes m ++ rest) ≡ length m
length_claimed m rest h = omega arith

pub frame_begins : (m rest : List ℕ) → length m ≤ longest_message → begins_frame (frame_bytes m ++ rest) ≡ true
unfolding begins_frame
frame_begins m rest h =
    let s : List ℕ = frame_bytes m ++ rest in
    let c : ℕ = crc (frame_header m ++ m) in
    let l : message_length (frame_bytes m ++ rest) ≡ length m = length_claimed m rest h in
    let e = append_assoc (frame_header m ++ m) (three_bytes (crc (frame_header m ++ m))) rest in
    let n : length (frame_header m ++ m) ≡ length m + 3 = omega arith in
    let t : take (length m + 3) (frame_bytes m ++ rest) ≡ frame_header m ++ m = ap (take (length m + 3)) e ∙ take_at (frame_header m ++ m) (three_bytes (crc (frame_header m ++ m)) ++ rest) (length m + 3) n in
    let d : drop (length m + 3) (frame_bytes m ++ rest) ≡ three_bytes (crc (frame_header m ++ m)) ++ rest = ap (drop (length m + 3)) e ∙ drop_at (frame_header m ++ m) (three_bytes (crc (frame_header m ++ m)) ++ rest) (length m + 3) n in
    let w : sent_check (frame_bytes m ++ rest) (length m + 3) ≡ crc (frame_header m ++ m) = sent_at (frame_bytes m ++ rest) rest (length m + 3) (crc (frame_header m ++ m)) d in
    let u : length (frame_bytes m ++ rest) ≡ length m + 6 + length rest = ap length e ∙ (length-append (frame_header m ++ m) (three_bytes (crc (frame_header m ++ m)) ++ rest) ∙ (omega arith)) in
    and_from _ _ refl (and_from _ _ (le-leb (frame_length (frame_bytes m ++ rest)) (length (frame_bytes m ++ rest)) (omega arith))
    (eq-eqb _ _ (ap (λ x. sent_check (frame_bytes m ++ rest) (x + 3)) l ∙ w ∙ ap crc (sym t) ∙ ap (λ x. crc (take (x + 3) (frame_bytes m ++ rest))) (sym l))))
  where
    sent_at : (s rest : List ℕ) (n c : ℕ) → drop n s ≡ three_bytes c ++ rest → sent_check s n ≡ c
    sent_at s rest n c d =
        let a : get_or s n 0 ≡ c / 65536 = (let z : n + 0 ≡ n = omega arith in ap (λ x. get_or s x 0) (sym z) ∙ sym (get_or-drop n s 0 0) ∙ ap (λ x. get_or x 0 0) d) in
        let b : get_or s (n + 1) 0 ≡ c / 256 % 256 = sym (get_or-drop n s 1 0) ∙ ap (λ x. get_or x 1 0) d in
        let e : get_or s (n + 2) 0 ≡ c % 256 = sym (get_or-drop n s 2 0) ∙ ap (λ x. get_or x 2 0) d in
        rw (a, b, e) (omega arith)

pub frame_message : (m rest : List ℕ) → length m ≤ longest_message → framed_message (frame_bytes m ++ rest) ≡ m
frame_message m rest h = grind (arith, append_assoc, take_at)

-- ---- a list of frames after bytes
length-frame : (m : List ℕ) → length (frame_bytes m) ≡ length m + 6
length-frame m = length-append (frame_header m ++ m) (three_bytes (crc (frame_header m ++ m))) ∙ omega arith

scanned_list : (pre : List ℕ) (ms : List (List ℕ)) {b : List ℕ} {p n : ℕ} → b ≡ pre ++ flat_map frame_bytes ms → p ≡ length pre → n ≡ length b → All (λ m. length m ≤ longest_message) ms → Scanned true b p n (placed p ms)
scanned_list pre [] {b} e q r a = (let l : length b ≡ length pre = ap length (e ∙ append-nil pre) in omega arith, λ k i j. (let l : length b ≡ length pre = ap length (e ∙ append-nil pre) in absurd (omega arith)))
scanned_list pre (m ∷ ms) {b} {p} {n} e q r a =
    let h : length m ≤ longest_message = All-head (λ x. length x ≤ longest_message) m ms a in
    let l : p + (length m + 6) ≡ length (pre ++ frame_bytes m) = (let x = length-append pre (frame_bytes m) in let y = length-frame m in omega (arith, x, y)) in (
      omega arith,
      (λ k i j. absurd (omega arith)),
      (rw (e, q) (grind (arith, drop_at, frame_begins, frame_message))),
      scanned_list (pre ++ frame_bytes m) ms (e ∙ sym (append_assoc pre (frame_bytes m) (flat_map frame_bytes ms))) l r (All-tail (λ x. length x ≤ longest_message) m ms a),
    )

-- a scan can be cut if no frame lies across
abbrev NoneAcross : List ℕ → ℕ → Type 0
NoneAcross b x = (f : Framed) → IsFrameOf b f → f.offset < x → x < frame_end f → ⊥

scanned_cut : (b : List ℕ) (fs : List Framed) {from x n : ℕ} → from ≤ x → x ≤ n → NoneAcross b x → Scanned true b from n fs
    → (front : List Framed) × (rest : List Framed) × (fs ≡ front ++ rest) × Scanned true b x n rest
scanned_cut b [] h k c s = ([], [], refl, (k, λ q i j. s.1 q (omega arith) j))
scanned_cut b (f ∷ fs) {x} h k c s = ⊎_elim
    (λ (l : f.offset < x).
    let e : frame_end f ≤ x = ⊎_elim (λ (y : x < frame_end f). absurd (c f s.2 l y)) (λ (y : frame_end f ≤ x). y) (cases_lt x (frame_end f)) in
    let r = scanned_cut b fs e k c s.3 in
    (f ∷ r.0, r.1, ap (λ t. f ∷ t) r.2, r.3))
    (λ (l : x ≤ f.offset). ([], f ∷ fs, refl, (l, (λ q i j. s.1 q (omega arith) j), s.2, s.3)))
    (cases_lt f.offset x)

ends : (b : List ℕ) → frames_from (length b) 0 (drop (length b) b) ≡ []
unfolding frames_from
ends b = let d : drop (length b) b ≡ [] = drop_all (length b) b (omega arith) in rw d refl

-- the scan of all bytes from a place on is unique
scanned_one : (b : List ℕ) (x : ℕ) (fs gs : List Framed) → Scanned true b x (length b) fs → Scanned true b x (length b) gs → fs ≡ gs
scanned_one b x fs gs s t = grind (arith, common_steps, ends, scanned_frames)

-- the frame of each message is in the list
list_contains : (p i : ℕ) (ms : List (List ℕ)) → i < length ms → Contains (placed p ms) (record { offset = p + length (flat_map frame_bytes (take i ms)); message = get_or ms i [] })
list_contains p i [] h = absurd (omega arith)
list_contains p zero (m ∷ ms) h = (0, omega arith, ap (λ (x : ℕ). let r : Framed = record { offset = x; message = m } in r) (omega arith))
list_contains p (suc i) (m ∷ ms) h =
    let c = list_contains (p + (length m + 6)) i ms (omega (arith, h)) in
    let e : p + (length m + 6) + length (flat_map frame_bytes (take i ms)) ≡ p + length (frame_bytes m ++ flat_map frame_bytes (take i ms)) =
    (let x = length-append (frame_bytes m) (flat_map frame_bytes (take i ms)) in let y = length-frame m in omega (arith, x, y)) in
    (suc c.0, omega (arith, c.1), get_same (placed (p + (length m + 6)) ms) (record { offset = p; message = m }) (get_or ms i []) c.0 (p + (length m + 6) + length (flat_map frame_bytes (take i ms))) (p + length (frame_bytes m ++ flat_map frame_bytes (take i ms))) e c.2)
  where
    get_same : (xs : List Framed) (f : Framed) (m : List ℕ) (k x y : ℕ) → x ≡ y → get_or xs k (record { offset = x; message = m }) ≡ record { offset = x; message = m } → get_or (f ∷ xs) (suc k) (record { offset = y; message = m }) ≡ record { offset = y; message = m }
    get_same xs f m k x y e h = subst (λ (z : ℕ). get_or xs k (record { offset = z; message = m }) ≡ record { offset = z; message = m }) e h

-- the stream is cut at a frame
cut_at : (bytes : List ℕ) (ms : List (List ℕ)) (k : ℕ) → stream_after bytes ms ≡ stream_after bytes (take k ms) ++ flat_map frame_bytes (drop k ms)
cut_at bytes ms k =
    ap (stream_after bytes) (sym (take-append-drop k ms)) ∙ ap (λ x. bytes ++ x) (flat_map-append frame_bytes (take k ms) (drop k ms)) ∙ sym (append_assoc bytes (flat_map frame_bytes (take k ms)) (flat_map frame_bytes (drop k ms)))

place_split : (bytes : List ℕ) (ms : List (List ℕ)) (k d : ℕ) → frame_place bytes ms (k + d) ≡ frame_place bytes ms k + length (flat_map frame_bytes (take d (drop k ms)))
place_split bytes ms k d = grind (arith, take-add, flat_map-append, length-append)

-- the frame with number i
frame_number : (bytes : List ℕ) (ms : List (List ℕ)) (i : ℕ) → i < length ms → All (λ m. length m ≤ longest_message) ms → IsFrameOf (stream_after bytes ms) (record { offset = frame_place bytes ms i; message = get_or ms i [] })
frame_number bytes ms i h a =
    let d : drop i ms ≡ get_or ms i [] ∷ drop (i + 1) ms = drop_more ms i [] h in
    let e : stream_after bytes ms ≡ stream_after bytes (take i ms) ++ (frame_bytes (get_or ms i []) ++ flat_map frame_bytes (drop (i + 1) ms)) = cut_at bytes ms i ∙ ap (λ x. stream_after bytes (take i ms) ++ flat_map frame_bytes x) d in
    subst (λ (x : List ℕ). IsFrameOf x (record { offset = frame_place bytes ms i; message = get_or ms i [] })) (sym e) (grind (arith, drop_at, frame_begins, frame_message))

-- a frame ends at the offset of the next, and so before each later one begins
frame_ends : (bytes : List ℕ) (ms : List (List ℕ)) (i k : ℕ) → i < k → k < length ms → frame_place bytes ms i + (length (get_or ms i []) + 6) ≤ frame_place bytes ms k
frame_ends bytes ms i k h l =
    let z : i + suc (k - (i + 1)) ≡ k = omega arith in
    let p : frame_place bytes ms (i + suc (k - (i + 1))) ≡ frame_place bytes ms i + length (flat_map frame_bytes (take (suc (k - (i + 1))) (drop i ms))) = place_split bytes ms i (suc (k - (i + 1))) in
    let d : drop i ms ≡ get_or ms i [] ∷ drop (i + 1) ms = drop_more ms i [] (omega arith) in
    let e : length (flat_map frame_bytes (take (suc (k - (i + 1))) (drop i ms))) ≡ length (frame_bytes (get_or ms i [])) + length (flat_map frame_bytes (take (k - (i + 1)) (drop (i + 1) ms))) =
    ap (λ x. length (flat_map frame_bytes (take (suc (k - (i + 1))) x))) d ∙ length-append (frame_bytes (get_or ms i [])) (flat_map frame_bytes (take (k - (i + 1)) (drop (i + 1) ms))) in
    close _ _ _ (ap (frame_place bytes ms) (sym z) ∙ p) e (length-frame (get_or ms i []))
  where
    close : {x u w : ℕ} (y r m : ℕ) → x ≡ y + u → u ≡ w + r → w ≡ m + 6 → y + (m + 6) ≤ x
    close y r m a b c = omega arith

-- no frame lies across the beginning of a frame that is far enough after the bytes
none_across : (bytes : List ℕ) (ms : List (List ℕ)) (k : ℕ) → All (λ m. length m ≤ longest_message) ms → k < length ms → length bytes + most_undecided ≤ frame_place bytes ms k → HasNoOtherFrame bytes ms k
    → NoneAcross (stream_after bytes ms) (frame_place bytes ms k)
none_across bytes ms k a l far quiet f v h c = ⊎_elim
    (λ (x : f.offset < length bytes).
    let m : length f.message ≡ message_length (drop f.offset (stream_after bytes ms)) = ap length v.message ∙ length-message (drop f.offset (stream_after bytes ms)) v.begins in
    short m (omega arith) x far c)
    (λ (x : length bytes ≤ f.offset).
    let w = quiet f.offset x h v.begins in
    let g = frame_number bytes ms w.0 (omega (arith, w.1, l)) a in
    let s : f ≡ record { offset = frame_place bytes ms w.0; message = get_or ms w.0 [] } = same_frame (stream_after bytes ms) f (record { offset = frame_place bytes ms w.0; message = get_or ms w.0 [] }) v g w.2 in
    crossing _ _ _ (ap frame_end s) (frame_ends bytes ms w.0 k w.1 l) c)
    (cases_lt f.offset (length bytes))
  where
    short : {o lm ml j p : ℕ} → lm ≡ ml → ml + 6 ≤ longest_frame → o < j → j + most_undecided ≤ p → p < o + (lm + 6) → ⊥
    short a b c d e = omega arith

    crossing : (e x p : ℕ) → e ≡ x → x ≤ p → p < e → ⊥
    crossing e x p a b c = omega arith

pub stays_local : (bytes : List ℕ) (ms : List (List ℕ)) (k : ℕ) → StaysLocal bytes ms k
unfolding frames_of
stays_local bytes ms k a l far quiet i hi li =
    let b : List ℕ = stream_after bytes ms in
    let e : stream_after bytes ms ≡ stream_after bytes (take k ms) ++ flat_map frame_bytes (drop k ms) = cut_at bytes ms k in
    let within : frame_place bytes ms k ≤ length (stream_after bytes ms) = (let y : length (stream_after bytes ms) ≡ length (stream_after bytes (take k ms)) + length (flat_map frame_bytes (drop k ms)) = ap length e ∙ length-append (stream_after bytes (take k ms)) (flat_map frame_bytes (drop k ms)) in ends_within _ _ _ y) in
    let s : Scanned true b 0 (length b) (frames_from 0 0 b) = frames_scanned (length b) b 0 (omega arith) (omega arith) in
    let c = scanned_cut b (frames_from 0 0 b) {from = 0} (omega arith) within (none_across bytes ms k a l far quiet) s in
    let t : Scanned true b (frame_place bytes ms k) (length b) (placed (frame_place bytes ms k) (drop k ms)) =
    scanned_list (stream_after bytes (take k ms)) (drop k ms) e refl refl (All-drop (λ m. length m ≤ longest_message) k ms a) in
    let r : c.1 ≡ placed (frame_place bytes ms k) (drop k ms) = scanned_one b (frame_place bytes ms k) c.1 (placed (frame_place bytes ms k) (drop k ms)) c.3 t in
    let z : k + (i - k) ≡ i = omega arith in
    let o : frame_place bytes ms k + length (flat_map frame_bytes (take (i - k) (drop k ms))) ≡ frame_place bytes ms i = sym (place_split bytes ms k (i - k)) ∙ ap (frame_place bytes ms) z in
    let m : get_or (drop k ms) (i - k) [] ≡ get_or ms i [] = get_or-drop k ms (i - k) [] ∙ ap (λ n. get_or ms n []) z in
    let f : Contains (placed (frame_place bytes ms k) (drop k ms)) (record { offset = frame_place bytes ms k + length (flat_map frame_bytes (take (i - k) (drop k ms))); message = get_or (drop k ms) (i - k) [] }) =
    list_contains (frame_place bytes ms k) (i - k) (drop k ms) (let q : length (drop k ms) ≡ length ms - k = length-drop k ms in omega (arith, q, hi, li)) in
    let g : record { offset = frame_place bytes ms k + length (flat_map frame_bytes (take (i - k) (drop k ms))); message = get_or (drop k ms) (i - k) [] } ≡ record { offset = frame_place bytes ms i; message = get_or ms i [] } =
    ap (λ (y : ℕ). let q : Framed = record { offset = y; message = get_or (drop k ms) (i - k) [] } in q) o ∙ ap (λ (y : List ℕ). let q : Framed = record { offset = frame_place bytes ms i; message = y } in q) m in
    subst (λ (y : List Framed). Contains y (record { offset = frame_place bytes ms i; message = get_or ms i [] })) (sym (c.2 ∙ ap (λ y. c.0 ++ y) r))
    (Contains-append_right c.0 (placed (frame_place bytes ms k) (drop k ms)) (record { offset = frame_place bytes ms i; message = get_or ms i [] }) (subst (λ (y : Framed). Contains (placed (frame_place bytes ms k) (drop k ms)) y) g f))
  where
    ends_within : (x y z : ℕ) → x ≡ y + z → y ≤ x
    ends_within x y z e = omega arith

-- a stream of frames without other bytes has these frames
pub joined : (ms : List (List ℕ)) → All (λ m. length m ≤ longest_message) ms → frames_of (flat_map frame_bytes ms) ≡ placed 0 ms
joined ms a = scanned_all true (flat_map frame_bytes ms) (placed 0 ms) (scanned_list [] ms refl refl refl a)
