-- The counts of looks of a window. Only the first ones are stored.
use Rattle.rtcm_bits.proofs.Names.{◌≡◌, ℕ, ◌+◌, ◌-◌, ◌<◌, ◌≤◌, min, max, List, [], ◌∷◌, ◌++◌, length, drop, replicate, slice_index, slice_set, refl, sym, ap, ◌∙◌, arith, suc, zero, length-append, length-drop, append_assoc, ⊎_elim, drop-append-le, drop-replicate, drop-set-lt, get_or-append-add, get_or-append_right, get_or_append_left, get_or-replicate, get_or-set_other, length-replicate, replicate-append-replicate, set-append_left, cases_lt, drop-append-add, get_or-append_seam, set-append_seam, Buffer, buffer, WindowValue, held_of, filled_up, counts_alone, looked_through, pushed_all, without_front, common_steps, rules}
use Rattle.rtcm_bits.proofs.WindowLaws.{AgreeFrom, looked_length, shifted, through_counts}
use Rattle.rtcm_bits.proofs.SmallLaws.{get_or-same}

-- the sums of a window before and after looks at k bytes: e and e' count all looks, m is the largest count after them
pub record AreSums (e e' k m largest : ℕ) : Type 0 where
  pub few : e ≤ 18446744073709551615
  pub sum : e' ≡ min (e + k) 18446744073709551615
  pub most : m ≡ largest

-- more bytes without a look
pub filled_more : (xs : List ℕ) (o n k : ℕ) → length xs + o ≤ n → filled_up xs o (n + k) ≡ filled_up xs o n ++ replicate k 0
filled_more xs o n k h = grind (arith, replicate-append-replicate, append_assoc)

pub filled_length : (xs : List ℕ) (o n : ℕ) → length xs + o ≤ n → length (filled_up xs o n) ≡ n
filled_length xs o n h = grind (arith, length-append, length-replicate)

-- all counts of the first bytes stored
pub filled_out : (xs ys : List ℕ) (o n k : ℕ) → ys ≡ filled_up xs o k → length xs + o ≤ k → k ≤ n → filled_up ys 0 n ≡ filled_up xs o n
filled_out xs ys o n k e h g =
    let m : n ≡ k + (n - k) = omega (arith, g) in
    let l : length (filled_up xs o k) ≡ k = filled_length xs o k h in
    let r : filled_up xs o (k + (n - k)) ≡ filled_up xs o k ++ replicate (n - k) 0 = filled_more xs o k (n - k) h in
    let z : n - (k + 0) ≡ n - k = omega arith in
    rw (e, l, z) (sym (ap (filled_up xs o) m ∙ r))

-- the count after those listed
count_at : (ys zs : List ℕ) (x y i : ℕ) → i ≡ length ys → (slice_index (ys ++ x ∷ zs) i ≡ x) × (slice_set (ys ++ x ∷ zs) i y ≡ ys ++ y ∷ zs)
count_at ys zs x y i e = rw e (get_or-append_seam ys x zs 0, set-append_seam ys x zs y)

-- the first look at a byte after those with a count
first_look : (xs : List ℕ) (o p n i : ℕ) → i ≡ length xs + o → p ≡ o + 1 → i < n
    → (slice_index (filled_up xs o n) i ≡ 0) × (slice_set (filled_up xs o n) i 1 ≡ filled_up xs p n)
first_look xs o p n i e f h =
    let z : n - (length xs + o) ≡ suc (n - (length xs + (o + 1))) = omega (arith, e, h) in
    let r : replicate {A = ℕ} (o + 1) 1 ≡ replicate o 1 ++ 1 ∷ [] = sym (replicate-append-replicate o 1 1) in
    let k : i ≡ length (xs ++ replicate o 1) = simp (length-append, length-replicate) e in
    let a = count_at (xs ++ replicate o 1) (replicate (n - (length xs + (o + 1))) 0) 0 1 i k in
    let s : xs ++ (replicate o 1 ++ replicate (suc (n - (length xs + (o + 1)))) 0) ≡ (xs ++ replicate o 1) ++ replicate (suc (n - (length xs + (o + 1)))) 0 =
    sym (append_assoc xs (replicate o 1) (replicate (suc (n - (length xs + (o + 1)))) 0)) in
    let t : xs ++ ((replicate o 1 ++ 1 ∷ []) ++ replicate (n - (length xs + (o + 1))) 0) ≡ (xs ++ replicate o 1) ++ (1 ∷ replicate (n - (length xs + (o + 1))) 0) = simp append_assoc in
    rw (f, z, r, s, t) a

pub first_looks : {e : ℕ} (b xs : List ℕ) (o n m k : ℕ) → length xs + o + k ≤ n → e ≤ 18446744073709551615
    → looked_through (held_of b (filled_up xs o n) e m) (length xs + o) k ≡ held_of b (filled_up xs (o + k) n) (min (e + k) 18446744073709551615) (max m (min k 1))
first_looks {e} b xs o n m zero h g = grind arith
first_looks {e} b xs o n m (suc k) h g = grind (arith, first_look, (first_looks b xs o n m k (omega (arith, h)) g))

-- the second look at the first byte looked at once
second_look : (xs : List ℕ) (p n : ℕ) → (slice_index (filled_up xs (suc p) n) (length xs) ≡ 1)
    × (slice_set (filled_up xs (suc p) n) (length xs) 2 ≡ filled_up (xs ++ 2 ∷ []) p n)
second_look xs p n = grind (arith, common_steps, length-append, count_at, append_assoc)

pub second_look_at : {b ys : List ℕ} {o q e e' m m' s k : ℕ} {w : WindowValue} (xs : List ℕ) → held_of b (filled_up xs o (length b)) e m ≡ w → s ≡ length xs → o ≡ suc q
    → k ≡ 1 → ys ≡ xs ++ 2 ∷ [] → AreSums e e' k m' (max m 2) → held_of b (filled_up ys q (length b)) e' m' ≡ looked_through w s k
second_look_at {b} {q} {s} xs v g i z y t =
    let j : s + 0 ≡ length xs = omega (arith, g) in
    let a = second_look xs q (length b) in
    rw (t.sum, t.most, y, z, ← v, i, j, a.0, a.1) refl

-- looks at the stored counts
one_in_front : {zs : List ℕ} {i m k : ℕ} (xs ys : List ℕ) → zs ≡ xs ++ ys → i < length xs → k ≡ m
    → (slice_set zs i (min (slice_index zs i + 1) 65535) ≡ slice_set xs i (min (slice_index xs i + 1) 65535) ++ ys)
    × (max k (min (slice_index zs i + 1) 65535) ≡ max m (min (slice_index xs i + 1) 65535))
one_in_front {i} {m} xs ys e h f = grind (arith, slice_set, slice_index, set-append_left, get_or_append_left)

pub in_front : (xs ys : List ℕ) (m s n : ℕ) → s + n ≤ length xs
    → ((looked_through (counts_alone (xs ++ ys) m) s n).looks ≡ (looked_through (counts_alone xs m) s n).looks ++ ys)
    × ((looked_through (counts_alone (xs ++ ys) m) s n).most ≡ (looked_through (counts_alone xs m) s n).most)
in_front xs ys m s zero h = (refl, refl)
in_front xs ys m s (suc n) h =
    let r = in_front xs ys m s n (omega (arith, h)) in
    let l : s + n < length (looked_through (counts_alone xs m) s n).looks = omega (arith, h, looked_length (counts_alone xs m) s n) in
    one_in_front (looked_through (counts_alone xs m) s n).looks ys r.0 l r.1

-- looks at bytes whose counts are the first of the stored ones from f on
pub later_looks : {b ys : List ℕ} {e e' m m' k : ℕ} {w : WindowValue} (xs : List ℕ) (o f s : ℕ) → held_of b (filled_up (drop f xs) o (length b)) e m ≡ w
    → f + s + k ≤ length xs → ys ≡ (looked_through (counts_alone xs m) (f + s) k).looks → AreSums e e' k m' (looked_through (counts_alone xs m) (f + s) k).most
    → held_of b (filled_up (drop f ys) o (length b)) e' m' ≡ looked_through w s k
later_looks {b} {e} {m} {k} xs o f s v h p q = grind (arith, shifted, length-drop, in_front, looked_length, through_counts)

-- without the first bytes
drop_ones : (j o z : ℕ) → drop {A = ℕ} j (replicate o 1 ++ replicate z 0) ≡ replicate (o - j) 1 ++ replicate (z - (j - o)) 0
drop_ones j o z = ⊎_elim
    (λ (h : j < o).
    let e : z - (j - o) ≡ z = omega (arith, h) in
    rw (e, drop-append-le {A = ℕ} j (replicate o 1) (replicate z 0) (omega (arith, h, length-replicate {A = ℕ} o 1)), drop-replicate {X = ℕ} j o 1) refl)
    (λ (h : o ≤ j).
    let e : o - j ≡ 0 = omega (arith, h) in
    let m : j ≡ length (replicate {A = ℕ} o 1) + (j - o) = omega (arith, h, length-replicate {A = ℕ} o 1) in
    ap (λ (t : ℕ). drop {A = ℕ} t (replicate o 1 ++ replicate z 0)) m ∙ drop-append-add (replicate o 1) (replicate z 0) (j - o) ∙ rw (e, drop-replicate {X = ℕ} (j - o) z 0) refl)
    (cases_lt j o)

pub dropped_past : (xs : List ℕ) (o n d : ℕ) → length xs ≤ d → drop d (filled_up xs o n) ≡ filled_up [] (o - (d - length xs)) (n - d)
dropped_past xs o n d h =
    let m : d ≡ length xs + (d - length xs) = omega (arith, h) in
    let z : n - (length xs + o) - (d - length xs - o) ≡ n - d - (o - (d - length xs)) = omega (arith, h) in
    let y : n - d - (length {A = ℕ} [] + (o - (d - length xs))) ≡ n - d - (o - (d - length xs)) = omega arith in
    ap (λ (t : ℕ). drop t (filled_up xs o n)) m
    ∙ drop-append-add xs (replicate o 1 ++ replicate (n - (length xs + o)) 0) (d - length xs)
    ∙ drop_ones (d - length xs) o (n - (length xs + o))
    ∙ rw (z, y) refl

-- first looks at the bytes from s on, of a window with the view w
pub first_looks_at : {b : List ℕ} {e e' m m' s k : ℕ} {w : WindowValue} (xs : List ℕ) (o : ℕ) → held_of b (filled_up xs o (length b)) e m ≡ w → s ≡ length xs + o
    → s + k ≤ length b → AreSums e e' k m' (max m (min k 1)) → held_of b (filled_up xs (o + k) (length b)) e' m' ≡ looked_through w s k
first_looks_at {b} {m} {k} xs o v h g t = grind (arith, first_looks)

-- more bytes in the ring
pub view_grown : {b' : Buffer ℕ} {e m : ℕ} {w : WindowValue} (b : Buffer ℕ) (more xs : List ℕ) (o : ℕ) → held_of b.items (filled_up xs o (length b.items)) e m ≡ w
    → b' ≡ buffer (b.items ++ more) b.capacity → length xs + o ≤ length b.items → held_of b'.items (filled_up xs o (length b'.items)) e m ≡ pushed_all w more
view_grown b more xs o v x h = grind (arith, length-append, filled_more)

-- the last bytes of the ring, when no count is stored
pub view_dropped : {b b' ys : List ℕ} {p e m j n : ℕ} {w : WindowValue} (xs : List ℕ) (o : ℕ) → held_of b (filled_up xs o (length b)) e m ≡ w
    → b' ≡ drop j b → j ≡ n → ys ≡ [] → p ≡ o - (n - length xs) → length xs ≤ n → held_of b' (filled_up (drop 0 ys) p (length b')) e m ≡ without_front w n
view_dropped {b} {n} xs o v x f y q h = grind (arith, length-drop, dropped_past)

-- looks at bytes that are dropped next
same_from : (xs : List ℕ) (m s k d : ℕ) → s + k ≤ d → drop d (looked_through (counts_alone xs m) s k).looks ≡ drop d xs
same_from xs m s zero d h = refl
same_from xs m s (suc k) d h = drop-set-lt d (looked_through (counts_alone xs m) s k).looks (s + k) _ (omega (arith, h)) ∙ same_from xs m s k d (omega (arith, h))

same_at : (xs : List ℕ) (m s k j : ℕ) → s + k ≤ j → slice_index (looked_through (counts_alone xs m) s k).looks j ≡ slice_index xs j
same_at xs m s zero j h = refl
same_at xs m s (suc k) j h = get_or-set_other (looked_through (counts_alone xs m) s k).looks (s + k) j _ 0 (omega (arith, h)) ∙ same_at xs m s k j (omega (arith, h))

-- the greatest count after one look more
pub most_more : (xs : List ℕ) (m s k p q : ℕ) → p ≡ (looked_through (counts_alone xs m) s k).most → q ≡ max p (min (slice_index xs (s + k) + 1) 65535)
    → q ≡ (looked_through (counts_alone xs m) s (k + 1)).most
most_more xs m s k p q e f = let z : k + 1 ≡ suc k = omega arith in rw (z, f, e, same_at xs m s k (s + k) (omega arith)) refl

pub last_stored : {b : List ℕ} {e e' m m' k : ℕ} {w : WindowValue} (xs : List ℕ) (f o s : ℕ) → held_of b (filled_up (drop f xs) o (length b)) e m ≡ w → s + k ≤ length (drop f xs)
    → AreSums e e' k m' (looked_through (counts_alone xs m) (f + s) k).most → AgreeFrom (s + k) (held_of b (filled_up (drop f xs) o (length b)) e' m') (looked_through w s k)
last_stored {b} {e} {m} {k} xs f o s v h t d l =
    let n = length b in
    let i = in_front (drop f xs) (replicate o 1 ++ replicate (n - (length (drop f xs) + o)) 0) m s k h in
    rw (t.sum, t.most, (shifted xs f m s k).1, ← v, through_counts b (filled_up (drop f xs) o n) e m s k t.few, same_from (filled_up (drop f xs) o n) m s k d l, i.1) refl

seen_twice : (xs : List ℕ) (m s k : ℕ) → slice_index xs s ≡ 1 → ((j : ℕ) → slice_index xs (s + j) ≤ 1) → (looked_through (counts_alone xs m) s (suc k)).most ≡ max m 2
seen_twice xs m s zero f g = let z : s + 0 ≡ s = omega arith in rw (z, f) refl
seen_twice xs m s (suc k) f g = search (rules, same_at, seen_twice xs m s k f g)

at_once : (xs : List ℕ) (o z j : ℕ) → j < o → slice_index (xs ++ (replicate o 1 ++ replicate z 0)) (length xs + j) ≡ 1
at_once xs o z j h = grind (arith, get_or-append-add, get_or_append_left, length-replicate, get_or-replicate)

not_once : (xs : List ℕ) (o z j : ℕ) → o ≤ j → slice_index (xs ++ (replicate o 1 ++ replicate z 0)) (length xs + j) ≡ 0
not_once xs o z j h = grind (arith, get_or-append-add, get_or-append_right, length-replicate, get_or-same)

at_most_once : (xs : List ℕ) (o z j : ℕ) → slice_index (xs ++ (replicate o 1 ++ replicate z 0)) (length xs + j) ≤ 1
at_most_once xs o z j = grind (arith, at_once, not_once, cases_lt)

pub last_looks : {b : List ℕ} {e e' m m' s k : ℕ} {w : WindowValue} (xs : List ℕ) (o : ℕ) → held_of b (filled_up xs o (length b)) e m ≡ w → length xs ≤ s → s < length xs + o
    → 0 < k → AreSums e e' k m' (max m 2) → AgreeFrom (s + k) (held_of b (filled_up xs o (length b)) e' m') (looked_through w s k)
last_looks {b} {e} {m} {s} {k} xs o v h g p t d l =
    let n = length b in
    let a : slice_index (filled_up xs o n) s ≡ 1 =
    ap (λ (i : ℕ). slice_index (filled_up xs o n) i) (sum_back (length xs) s 0 h) ∙ at_once xs o (n - (length xs + o)) (s - length xs + 0) (omega (arith, h, g)) in
    let c : (j : ℕ) → slice_index (filled_up xs o n) (s + j) ≤ 1 = λ j. rw (sum_on (length xs) s j h) (at_most_once xs o (n - (length xs + o)) (s - length xs + j)) in
    let i : k ≡ suc (k - 1) = omega (arith, p) in
    let f : (looked_through (counts_alone (filled_up xs o n) m) s k).most ≡ max m 2 =
    ap (λ (u : ℕ). (looked_through (counts_alone (filled_up xs o n) m) s u).most) i ∙ seen_twice (filled_up xs o n) m s (k - 1) a c in
    rw (t.sum, t.most, ← v, through_counts b (filled_up xs o n) e m s k t.few, same_from (filled_up xs o n) m s k d l, f) refl
  where
    sum_on : (x s j : ℕ) → x ≤ s → s + j ≡ x + (s - x + j)
    sum_on x s j h = omega (arith, h)

    sum_back : (x s j : ℕ) → x ≤ s → s ≡ x + (s - x + 0)
    sum_back x s j h = omega (arith, h)
