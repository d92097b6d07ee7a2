-- The decided part of a stream.
use Rattle.rtcm_scan.proofs.Names.{ℕ, ◌≡◌, ◌+◌, ◌-◌, ◌<◌, ◌≤◌, Bool, true, false, not, ◌&&◌, ◌||◌, ltb, List, [], ◌∷◌, ◌++◌, length, drop, get_or, refl, ap, ◌∙◌, arith, suc, zero, ◌⊎◌, ⊎_elim, inl, inr, filter, list_any, cases_lt, cases_eq, lt-ltb, le-ltb, and_from, and_left, and_right, or_left, or_right, length_push, append-nil, get_or_push, get_or_append_left, prefix_len_is, list_any-append, filter-append, is_open, frame_length, framed_message, Framed, frame_end, frames_from, frames_of, places, is_inside, is_tried, decided, frames_before, decided_frames, Scanned}
use Rattle.rtcm_scan.proofs.FrameLemmas.{begins_parts, closed_whole}
use Rattle.rtcm_scan.proofs.ScanLemmas.{scanned_le, scanned_frames}

pub or_none : (x y : Bool) → y ≡ false → (x || y) ≡ x
or_none x y h = grind arith

pub length-places : (n : ℕ) → length (places n) ≡ n
unfolding places
length-places zero = refl
length-places (suc n) = let e : length (places n) ≡ n = length-places n in omega (arith, length_push (places n) n)

pub get_or-places : (n k d : ℕ) → k < n → get_or (places n) k d ≡ k
unfolding places
get_or-places zero k d h = absurd (omega arith)
get_or-places (suc n) k d h =
    let l : length (places n) ≡ n = length-places n in
    ⊎_elim (λ (e : k ≡ n). rw e (get_or_push (places n) n d n l))
    (λ (e : k ≡ n → ⊥). let i : k < n = omega arith in get_or_append_left (places n) (n ∷ []) d k (omega arith) ∙ get_or-places n k d i) (cases_eq k n)

-- a place before the end of the scan isn't open, or is inside a frame
pub place_scanned : (b : List ℕ) (from to k : ℕ) (fs : List Framed) → Scanned false b from to fs → from ≤ k → k < to → (is_open (drop k b) ≡ false) ⊎ (list_any (is_inside k) fs ≡ true)
place_scanned b from to k [] s h i = inl ((s.1 k h i).closed refl)
place_scanned b from to k (f ∷ fs) s h i =
    ⊎_elim (λ (l : k < f.offset). inl ((s.1 k h l).closed refl))
    (λ (g : f.offset ≤ k).
    ⊎_elim (λ (e : k ≡ f.offset). inl (rw e (closed_whole (drop f.offset b) (begins_parts (drop f.offset b) s.2.begins).1)))
    (λ (n : k ≡ f.offset → ⊥).
    ⊎_elim (λ (m : k < frame_end f). inr (or_left (is_inside k f) (list_any (is_inside k) fs) (and_from _ _ (lt-ltb f.offset k (omega arith)) (lt-ltb k (frame_end f) m))))
    (λ (m : frame_end f ≤ k).
    ⊎_elim (λ (q : is_open (drop k b) ≡ false). inl q)
    (λ (q : list_any (is_inside k) fs ≡ true). inr (or_right (is_inside k f) (list_any (is_inside k) fs) q))
    (place_scanned b (frame_end f) to k fs s.3 m i))
    (cases_lt k (frame_end f)))
    (cases_eq k f.offset))
    (cases_lt k f.offset)

-- no scanned frame goes past the end of the scan
pub none_past : (e : Bool) (b : List ℕ) (from to : ℕ) (fs : List Framed) → Scanned e b from to fs → list_any (is_inside to) fs ≡ false
none_past e b from to [] s = refl
none_past e b from to (f ∷ fs) s = grind (arith, scanned_le, (none_past e b (frame_end f) to fs s.3))

-- if no frame from a place on passes a test, the frames found from it on don't
pub frames_later : (t : Framed → Bool) (p k : ℕ) (s : List ℕ) → ((f : Framed) → p ≤ f.offset → t f ≡ false) → (list_any t (frames_from p k s) ≡ false) × (filter t (frames_from p k s) ≡ [])
unfolding frames_from
frames_later t p k [] h = (refl, refl)
frames_later t p (suc k) (x ∷ s) h = frames_later t (p + 1) k s (λ f l. h f (omega (arith, l)))
frames_later t p zero (x ∷ s) h =
    let f : Framed = record { offset = p; message = framed_message (x ∷ s) } in
    let r : List Framed = frames_from (p + 1) (frame_length (x ∷ s) - 1) s in
    let later : (k : ℕ) → _ = λ k. frames_later t (p + 1) k s (λ f l. h f (omega (arith, l))) in
    grind arith

pub none_later : (to p k : ℕ) (s : List ℕ) → to ≤ p → list_any (is_inside to) (frames_from p k s) ≡ false
none_later to p k s h = (frames_later (is_inside to) p k s (λ f l. and_left _ _ (le-ltb f.offset to (omega (arith, h, l))))).0

all_before : (e : Bool) (b : List ℕ) (from to : ℕ) (fs : List Framed) → Scanned e b from to fs → frames_before to fs ≡ fs
unfolding frames_before
all_before e b from to [] s = refl
all_before e b from to (f ∷ fs) s = grind (arith, scanned_le, (all_before e b (frame_end f) to fs s.3))

none_before : (to p k : ℕ) (s : List ℕ) → to ≤ p → frames_before to (frames_from p k s) ≡ []
unfolding frames_before
none_before to p k s h = (frames_later (λ f. ltb f.offset to) p k s (λ f l. le-ltb f.offset to (omega (arith, h, l)))).1

-- the frames of b are the scanned ones and those after the scan
pub frames_split : (e : Bool) (b : List ℕ) (to : ℕ) (fs : List Framed) → to ≤ length b → Scanned e b 0 to fs → frames_of b ≡ fs ++ frames_from to 0 (drop to b)
unfolding frames_of
frames_split e b to fs h s = scanned_frames e b 0 to fs h s

pub decided_is : (b : List ℕ) (to : ℕ) (fs : List Framed) → to ≤ length b → Scanned false b 0 to fs → (to < length b → is_open (drop to b) ≡ true) → decided b ≡ to
unfolding decided is_tried
decided_is b to fs h s o =
    let split = frames_split false b to fs h s in
    let l : length (places (length b)) ≡ length b = length-places (length b) in
    prefix_len_is (λ k. not (not (list_any (is_inside k) (frames_of b)) && is_open (drop k b))) (places (length b)) to 0 (omega arith)
    (λ k i.
    let g : get_or (places (length b)) k 0 ≡ k = get_or-places (length b) k 0 (omega arith) in
    rw g (⊎_elim (λ (q : is_open (drop k b) ≡ false). ap not (and_right (not (list_any (is_inside k) (frames_of b))) (is_open (drop k b)) q))
    (λ (q : list_any (is_inside k) fs ≡ true).
    let r : list_any (is_inside k) (frames_of b) ≡ true = ap (list_any (is_inside k)) split ∙ list_any-append (is_inside k) fs (frames_from to 0 (drop to b)) ∙ or_left _ _ q in
    rw r refl)
    (place_scanned b 0 to k fs s (omega arith) i)))
    (λ i.
    let n : list_any (is_inside to) fs ≡ false = none_past false b 0 to fs s in
    let m : list_any (is_inside to) (frames_from to 0 (drop to b)) ≡ false = none_later to to 0 (drop to b) (omega arith) in
    let r : list_any (is_inside to) (frames_of b) ≡ false = ap (list_any (is_inside to)) split ∙ list_any-append (is_inside to) fs (frames_from to 0 (drop to b)) ∙ (rw (n, m) refl) in
    rw (get_or-places (length b) to 0 (omega arith), r, o (omega arith)) refl)

pub decided_frames_are : (b : List ℕ) (to : ℕ) (fs : List Framed) → to ≤ length b → Scanned false b 0 to fs → (to < length b → is_open (drop to b) ≡ true) → decided_frames b ≡ fs
unfolding decided_frames frames_before
decided_frames_are b to fs h s o = grind (arith, decided_is, frames_split, filter-append, all_before, none_before, append-nil)
