-- The number of places in no frame is the number of bytes outside the frames.
use Rattle.rtcm_scan.proofs.Names.{ℕ, ◌≡◌, ◌+◌, ◌-◌, ◌<◌, ◌≤◌, Bool, true, false, not, cond, ◌&&◌, ltb, leb, List, [], ◌∷◌, length, drop, sum_by, refl, sym, ap, ◌∙◌, arith, suc, zero, add-zero, list_any, count_by, lt-ltb, le-ltb, le-leb, lt-leb, and_left, and_right, sum_by_push, sum_by-cons, list_any-append, Framed, frame_end, frames_from, frames_of, places, is_within, skipped_before, Scanned}
use Rattle.rtcm_scan.proofs.ScanLemmas.{scanned_le}
use Rattle.rtcm_scan.proofs.DecidedLemmas.{or_none, frames_later, frames_split}

-- from a place on, all places pass a test, or none does
count_same : (t : ℕ → Bool) (x : Bool) (from d : ℕ) → ((q : ℕ) → from ≤ q → q < from + d → t q ≡ x) → count_by t (places (from + d)) ≡ count_by t (places from) + cond x d 0
unfolding places
count_same t x from zero h = let z : from + 0 ≡ from = omega arith in rw z (elim x as (λ v. count_by t (places from) ≡ count_by t (places from) + cond v 0 0) [ true ↦ omega arith | false ↦ omega arith ])
count_same t x from (suc d) h =
    let z : from + suc d ≡ suc (from + d) = omega arith in
    let r = count_same t x from d (λ q i j. h q i (omega arith)) in
    let s = sum_by_push (λ q. cond (t q) 1 0) (places (from + d)) (from + d) in
    rw z (s ∙ ap (λ v. count_by t (places (from + d)) + cond v 1 0) (h (from + d) (omega arith) (omega arith)) ∙ one_more x _ _ r)
  where
    one_more : (x : Bool) (u v : ℕ) → u ≡ v + cond x d 0 → u + cond x 1 0 ≡ v + cond x (suc d) 0
    one_more true u v e = omega arith
    one_more false u v e = omega arith

-- a place before the frames, or before the scanned part, is in no frame
none_ahead : (e : Bool) (b : List ℕ) (from to q : ℕ) (fs : List Framed) → Scanned e b from to fs → q < from → list_any (is_within q) fs ≡ false
none_ahead e b from to q [] s l = refl
none_ahead e b from to q (f ∷ fs) s l = grind (arith, (none_ahead e b (frame_end f) to q fs s.3 (omega arith)))

none_from : (q p k : ℕ) (s : List ℕ) → q < p → list_any (is_within q) (frames_from p k s) ≡ false
none_from q p k s h = (frames_later (is_within q) p k s (λ f l. and_left _ _ (lt-leb f.offset q (omega (arith, h, l))))).0

-- between two places, those in none of the frames there
count_left : (e : Bool) (b : List ℕ) (from to : ℕ) (fs : List Framed) (t : ℕ → Bool) → Scanned e b from to fs → ((q : ℕ) → from ≤ q → q < to → t q ≡ not (list_any (is_within q) fs))
    → count_by t (places to) + sum_by (λ f. length f.message + 6) fs ≡ count_by t (places from) + (to - from)
count_left e b from to [] t s h =
    let l : from ≤ to = s.0 in
    let z : from + (to - from) ≡ to = omega arith in
    let r : count_by t (places (from + (to - from))) ≡ count_by t (places from) + (to - from) = count_same t true from (to - from) (λ q i j. h q i (omega arith)) in
    let r' : count_by t (places to) ≡ count_by t (places from) + (to - from) = ap (λ n. count_by t (places n)) (sym z) ∙ r in
    omega arith
count_left e b from to (f ∷ fs) t s h =
    let i : from ≤ f.offset = s.0 in
    let l : frame_end f ≤ to = scanned_le e b (frame_end f) to fs s.3 in
    let z : from + (f.offset - from) ≡ f.offset = omega arith in
    let a : count_by t (places (from + (f.offset - from))) ≡ count_by t (places from) + (f.offset - from) = count_same t true from (f.offset - from) (λ q j k.
    let n : (leb f.offset q && ltb q (frame_end f)) ≡ false = and_left _ _ (lt-leb f.offset q (omega arith)) in
    h q j (omega arith) ∙ rw (n, none_ahead e b (frame_end f) to q fs s.3 (omega arith)) refl) in
    let a' : count_by t (places f.offset) ≡ count_by t (places from) + (f.offset - from) = ap (λ n. count_by t (places n)) (sym z) ∙ a in
    let c : count_by t (places (frame_end f)) ≡ count_by t (places f.offset) = count_same t false f.offset (length f.message + 6) (λ q j k.
    let y : ltb q (frame_end f) ≡ true = lt-ltb q (frame_end f) k in
    h q (omega arith) (omega arith) ∙ rw (le-leb f.offset q j, y) refl) ∙ add-zero _ in
    let r : count_by t (places to) + sum_by (λ f. length f.message + 6) fs ≡ count_by t (places (frame_end f)) + (to - frame_end f) = count_left e b (frame_end f) to fs t s.3 (λ q j k.
    let n : (leb f.offset q && ltb q (frame_end f)) ≡ false = and_right (leb f.offset q) _ (le-ltb q (frame_end f) j) in
    h q (omega arith) k ∙ rw n refl) in
    ap (λ n. count_by t (places to) + n) (sum_by-cons (λ f. length f.message + 6) f fs)
    ∙ omega arith

pub given_up_is : (e : Bool) (b : List ℕ) (p : ℕ) (fs : List Framed) → p ≤ length b → Scanned e b 0 p fs → skipped_before p (frames_of b) + sum_by (λ f. length f.message + 6) fs ≡ p
unfolding places
given_up_is e b p fs h s =
    let r : skipped_before p (frames_of b) + sum_by (λ f. length f.message + 6) fs ≡ 0 + (p - 0) = count_left e b 0 p fs (λ q. not (list_any (is_within q) (frames_of b))) s
    (λ q i j. ap not (ap (list_any (is_within q)) (frames_split e b p fs h s) ∙ list_any-append (is_within q) fs (frames_from p 0 (drop p b)) ∙ or_none _ _ (none_from q p 0 (drop p b) j))) in
    omega arith
