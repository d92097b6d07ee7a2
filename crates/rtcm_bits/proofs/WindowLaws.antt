-- The calls of a window and its ring, as the contracts state them.
use Rattle.rtcm_bits.proofs.Names.{◌≡◌, ℕ, ◌+◌, ◌-◌, ◌<◌, ◌≤◌, min, max, List, ◌++◌, length, take, drop, slice_index, slice_range, slice_set, refl, sym, ap, ◌∙◌, arith, suc, zero, length-drop, length-set, cases_lt, drop-append-le, drop-drop, drop-set-add, get_or-drop, take_all, take_rest, take-append-add, drop-append-add, Buffer, buffer, WindowValue, held_of, counts_alone, looked_through, without_front}

-- the counts of a range don't depend on the bytes, nor on the sum of all looks
pub through_counts : (b xs : List ℕ) (e m start n : ℕ) → e ≤ 18446744073709551615 →
    looked_through (held_of b xs e m) start n
    ≡ held_of b (looked_through (counts_alone xs m) start n).looks (min (e + n) 18446744073709551615) (looked_through (counts_alone xs m) start n).most
through_counts b xs e m start zero h = let z : min (e + 0) 18446744073709551615 ≡ e = grind arith in rw z refl
through_counts b xs e m start (suc n) h = grind (arith, (through_counts b xs e m start n h))

-- one more look at the count at j, which is k after the first f
one_more : {zs : List ℕ} {m m' : ℕ} (ys : List ℕ) (f j k : ℕ) → j ≡ f + k → drop f ys ≡ zs → m ≡ m'
    → (drop f (slice_set ys j (min (slice_index ys j + 1) 65535)) ≡ slice_set zs k (min (slice_index zs k + 1) 65535))
    × (max m (min (slice_index ys j + 1) 65535) ≡ max m' (min (slice_index zs k + 1) 65535))
one_more {zs} ys f j k e a b = grind (arith, get_or-drop, drop-set-add)

-- looks at the counts after the first f
pub shifted : (xs : List ℕ) (f m start n : ℕ)
    → (drop f (looked_through (counts_alone xs m) (f + start) n).looks ≡ (looked_through (counts_alone (drop f xs) m) start n).looks)
    × ((looked_through (counts_alone xs m) (f + start) n).most ≡ (looked_through (counts_alone (drop f xs) m) start n).most)
shifted xs f m start zero = (refl, refl)
shifted xs f m start (suc n) =
    let r = shifted xs f m start n in
    one_more (looked_through (counts_alone xs m) (f + start) n).looks f (f + start + n) (start + n) (omega arith) r.0 r.1

-- looks leave the bytes, and the number of counts
pub looked_bytes : (w : WindowValue) (start n : ℕ) → (looked_through w start n).bytes ≡ w.bytes
looked_bytes w start zero = refl
looked_bytes w start (suc n) = looked_bytes w start n

pub looked_length : (w : WindowValue) (start n : ℕ) → length (looked_through w start n).looks ≡ length w.looks
looked_length w start zero = refl
looked_length w start (suc n) = length-set (looked_through w start n).looks (start + n) _ ∙ looked_length w start n

pub looked_left : (w v : WindowValue) (start n m : ℕ) → v ≡ without_front (looked_through w start m) n → length v.bytes ≡ length w.bytes - n
looked_left w v start n m e = ap (λ (t : WindowValue). length t.bytes) e ∙ length-drop n _ ∙ ap (λ (t : List ℕ). length t - n) (looked_bytes w start m)

-- looks at consecutive ranges
pub looked_on : (w : WindowValue) (s j k : ℕ) → looked_through (looked_through w s j) (s + j) k ≡ looked_through w s (j + k)
looked_on w s j zero = let z : j + 0 ≡ j = omega arith in rw z refl
looked_on w s j (suc k) =
    let z : j + suc k ≡ suc (j + k) = omega arith in
    let a : s + (j + k) ≡ s + j + k = omega arith in
    rw (z, looked_on w s j k, a) refl

-- looks at bytes after the first f, before or after those are dropped
pub looked_past : {i : ℕ} (w : WindowValue) (f s k : ℕ) → i ≡ f + s → looked_through (without_front w f) s k ≡ without_front (looked_through w i k) f
looked_past w f s zero e = refl
looked_past {i} w f s (suc k) e = grind (arith, one_more, looked_past w f s k e)

front_last : (w : WindowValue) (j k : ℕ) → looked_through (without_front w j) 0 k ≡ without_front (looked_through w j k) j
front_last w j k = looked_past w j 0 k (omega arith)

pub looked_to : (w v : WindowValue) (n k : ℕ) → v ≡ without_front (looked_through w 0 n) n → looked_through v 0 k ≡ without_front (looked_through w 0 (n + k)) n
looked_to w v n k e =
    ap (λ (t : WindowValue). looked_through t 0 k) e ∙ front_last (looked_through w 0 n) n k
    ∙ ap (λ (t : WindowValue). without_front t n) (ap (λ (i : ℕ). looked_through (looked_through w 0 n) i k) (omega arith) ∙ looked_on w 0 n k)

-- the same window once n of its first bytes or more are dropped
abbrev pub AgreeFrom : ℕ → WindowValue → WindowValue → Type 0
AgreeFrom n v w = (d : ℕ) → n ≤ d → without_front v d ≡ without_front w d

-- n bytes dropped after a look at the first j, and then at the others
pub looked_dropped : {x : WindowValue} {j n : ℕ} (w u v : WindowValue) → j ≤ n → AgreeFrom (0 + j) u (looked_through w 0 j) → AgreeFrom (j + (n - j)) v (looked_through u j (n - j))
    → x ≡ without_front v n → x ≡ without_front (looked_through w 0 n) n
looked_dropped {j} {n} w u v h e f g = g ∙ f n (omega (arith, h)) ∙ both (n - j) n (omega (arith, h))
  where
    both : (k i : ℕ) → i ≡ j + k → without_front (looked_through u j k) i ≡ without_front (looked_through w 0 i) i
    both k i q =
        let s : (t : WindowValue) → without_front t (j + k) ≡ without_front (without_front t j) k = λ (t : WindowValue). rw (drop-drop k j t.bytes, drop-drop k j t.looks) refl in
        rw q (s (looked_through u j k) ∙ ap (λ (t : WindowValue). without_front t k)
        (sym (front_last u j k) ∙ ap (λ (t : WindowValue). looked_through t 0 k) (e j (omega arith)) ∙ front_last (looked_through w 0 j) j k)
        ∙ sym (s (looked_through (looked_through w 0 j) j k))
        ∙ ap (λ (t : WindowValue). without_front t (j + k)) (ap (λ (i : ℕ). looked_through (looked_through w 0 j) i k) (omega arith) ∙ looked_on w 0 j k))

-- a range of two consecutive lists: across both, inside the second
range_seam : (f b : List ℕ) (s n u : ℕ) → s ≤ length f → length f ≤ s + n → u ≡ s
    → take (length f - u) (drop u f) ++ take (s + n - length f - (s - u)) (drop (s - u) b) ≡ take n (drop s (f ++ b))
range_seam f b s n u h g i =
    let x : s - s ≡ 0 = omega arith in
    let w : s + n - length f - 0 ≡ s + n - length f = omega arith in
    let r : take (length f - s) (drop s f) ≡ drop s f = take_rest f s in
    let m : n ≡ length (drop s f) + (s + n - length f) = omega (arith, h, g, length-drop s f) in
    let t : take (length (drop s f) + (s + n - length f)) (drop s f ++ b) ≡ drop s f ++ take (s + n - length f) b = take-append-add (drop s f) b (s + n - length f) in
    rw (i, x, w, drop-append-le s f b h, r) (sym (ap (λ q. take q (drop s f ++ b)) m ∙ t))

range_second : (f b : List ℕ) (s n u : ℕ) → length f ≤ s → u ≡ length f
    → take (length f - u) (drop u f) ++ take (s + n - length f - (s - u)) (drop (s - u) b) ≡ take n (drop s (f ++ b))
range_second f b s n u h i = grind (arith, drop-append-add)

pub range_past : (f b : List ℕ) (s n from : ℕ) → from ≡ min s (length f) → length f < s + n
    → take (length f - from) (drop from f) ++ take (s + n - length f - (s - from)) (drop (s - from) b) ≡ slice_range (f ++ b) s (s + n)
range_past f b s n from e l = grind (arith, range_seam, range_second, cases_lt)

-- a ring that has room takes all
pub all_taken : (b b' : Buffer ℕ) (more : List ℕ) (n : ℕ) → length b.items + length more ≤ b.capacity → n ≡ min (length more) (b.capacity - length b.items)
    → b' ≡ buffer (b.items ++ take n more) b.capacity → b' ≡ buffer (b.items ++ more) b.capacity
all_taken b b' more n h e g = grind (arith, take_all)
