-- The CRC of folded bytes: a byte that is taken away and added to those 69, 71, 79, 85 and 96 places further on.
use Rattle.rtcm_bits.proofs.Names.{◌≡◌, ℕ, ◌+◌, ◌-◌, ◌/◌, ◌%◌, ◌^◌, ◌<◌, ◌≤◌, Bool, true, false, eqb, List, [], ◌∷◌, ◌++◌, length, drop, take, get_or, replicate, refl, sym, ap, ◌∙◌, arith, suc, zero, bit_xor, length-append, lit<, lit≤, xor_assoc, xor_zero_r, drop-replicate, agree_below_at, eqb-true, append_assoc, length-replicate, replicate-append-replicate, length-drop, length-take-le, drop-drop, drop-append-le, take-append-drop, take-append-le, take_all, drop-append_seam, drop-append-add, drop-length, xor_lt, xor_comm, uint, number, number_from, bits_of, add_front, remainder, bits_remainder, crc, after_bits, add_bytes, fold_into, Sixes, TABLES, length-uint, bits_of-append, common_steps}
use Rattle.rtcm_bits.proofs.RegisterBits.{uint-xor, uint-mod}
use Rattle.rtcm_bits.proofs.CheckLemmas.{divide_all, remainder_is, after_bits-append}
use Rattle.rtcm_bits.proofs.RegisterLemmas.{check_is, check_below}
use Rattle.rtcm_bits.proofs.TableLemmas.{add_split, remainder_sum, table_right, add_to_zeros}
use Rattle.rtcm_bits.proofs.SumLemmas.{drop-add, take-add_bytes, length-add, zeros_on, zeros_end, number_is, sum_same, split_check}
use Rattle.rtcm_bits.proofs.EntryLemmas.{next_entry, next_right, zero_after, into_bytes}
use lib.Lanes.{zip2}

sum_check : (a b : List ℕ) (k : ℕ) → length a + k ≡ length b → crc (add_bytes a b) ≡ bit_xor (crc (a ++ replicate k 0)) (crc b)
sum_check a b k h =
    let l : length (a ++ replicate k 0) ≡ length b = length-append a (replicate k 0) ∙ ap (λ (n : ℕ). length a + n) (length-replicate k 0) ∙ h in
    ap crc (sym (zeros_end a k b)) ∙ sum_same (a ++ replicate k 0) b l

-- the CRC of zeros, and of bytes before zeros
check_zeros : (n : ℕ) → crc (replicate n 0) ≡ 0
unfolding crc bits_remainder remainder bits_of uint number_from
check_zeros zero = refl
check_zeros (suc n) = check_zeros n

-- the register after a byte of 0: the sum of those of the parts
to_end : (r : List Bool) → length r ≡ 24 → add_front r (replicate 24 false ++ replicate 8 false) ≡ r ++ replicate 8 false
to_end r l = let t = add_to_zeros r 8 in (rw l at t)

eight_zeros : (x : ℕ) → x < 2 ^ 24 → uint 24 (next_entry x) ≡ remainder 8 (uint 24 x ++ replicate 8 false)
unfolding uint
eight_zeros x h =
    let l : length (uint 24 x) ≡ 24 = length-uint 24 x in
    (next_right x h).steps ∙ sym (divide_all (uint 24 x) (replicate 8 false) l) ∙ ap (remainder 8) (to_end (uint 24 x) l)

next_sum : (x y : ℕ) → x < 2 ^ 24 → y < 2 ^ 24 → next_entry (bit_xor x y) ≡ bit_xor (next_entry x) (next_entry y)
unfolding add_front
next_sum x y h k =
    let a : List Bool = uint 24 x in
    let b : List Bool = uint 24 y in
    let z : List Bool = replicate 8 false in
    let la : length (uint 24 x) ≡ 24 = length-uint 24 x in
    let lb : length (uint 24 y) ≡ 24 = length-uint 24 y in
    let s : bit_xor x y < 2 ^ 24 = xor_lt 24 x y h k in
    let p : length (uint 24 x ++ replicate 8 false) ≡ 32 = length-append a z ∙ ap (λ (n : ℕ). n + 8) la in
    let q : length (uint 24 y ++ replicate 8 false) ≡ 32 = length-append b z ∙ ap (λ (n : ℕ). n + 8) lb in
    number_is (next_entry (bit_xor x y)) (bit_xor (next_entry x) (next_entry y)) (next_right (bit_xor x y) s).bound (xor_lt 24 (next_entry x) (next_entry y) (next_right x h).bound (next_right y k).bound)
    (eight_zeros (bit_xor x y) s ∙ ap (λ (t : List Bool). remainder 8 (t ++ replicate 8 false)) (uint-xor 24 x y)
    ∙ ap (remainder 8) (sym (add_split a b z z (la ∙ sym lb)))
    ∙ remainder_sum 8 (a ++ z) (b ++ z) (p ∙ sym q) (omega (arith, p))
    ∙ ap (λ (t : List Bool). add_front t (remainder 8 (b ++ z))) (sym (eight_zeros x h)) ∙ ap (add_front (uint 24 (next_entry x))) (sym (eight_zeros y k))
    ∙ sym (uint-xor 24 (next_entry x) (next_entry y)))

-- the places of w from which on it is added
abbrev pub offsets : List ℕ
offsets = 27 ∷ 25 ∷ 17 ∷ 11 ∷ 0 ∷ []

abbrev Small : List ℕ → Type 0
Small [] = 0 ≤ 27
Small (o ∷ os) = (o ≤ 27) × Small os

small : Small offsets
small = (lit≤ tt, (lit≤ tt, (lit≤ tt, (lit≤ tt, (lit≤ tt, lit≤ tt)))))

-- the bytes m, after w was added from each of these places on
abbrev pub fold_at : List ℕ → List ℕ → List ℕ → List ℕ
fold_at [] w m = m
fold_at (o ∷ os) w m = add_bytes (drop o w) (fold_at os w m)

-- the sum of a function at these places
abbrev total : List ℕ → (ℕ → ℕ) → ℕ
total [] f = 0
total (o ∷ os) f = bit_xor (f o) (total os f)

total_same : (os : List ℕ) (f g : ℕ → ℕ) → ((o : ℕ) → f o ≡ g o) → total os f ≡ total os g
total_same [] f g h = refl
total_same (o ∷ os) f g h = let e : f o ≡ g o = h o in let r : total os f ≡ total os g = total_same os f g h in cc

swap_inner : (a b c d : ℕ) → bit_xor (bit_xor a b) (bit_xor c d) ≡ bit_xor (bit_xor a c) (bit_xor b d)
swap_inner a b c d =
    sym (xor_assoc (bit_xor a b) c d) ∙ ap (λ (n : ℕ). bit_xor n d) (xor_assoc a b c ∙ ap (bit_xor a) (xor_comm b c) ∙ sym (xor_assoc a c b))
    ∙ xor_assoc (bit_xor a c) b d

total_sum : (os : List ℕ) (f g : ℕ → ℕ) → total os (λ (o : ℕ). bit_xor (f o) (g o)) ≡ bit_xor (total os f) (total os g)
total_sum [] f g = refl
total_sum (o ∷ os) f g = ap (bit_xor (bit_xor (f o) (g o))) (total_sum os f g) ∙ swap_inner (f o) (g o) (total os f) (total os g)

total_below : (os : List ℕ) (f : ℕ → ℕ) → ((o : ℕ) → f o < 2 ^ 24) → total os f < 2 ^ 24
total_below [] f h = lit< tt
total_below (o ∷ os) f h = xor_lt 24 (f o) (total os f) (h o) (total_below os f h)

total_next : (os : List ℕ) (f : ℕ → ℕ) → ((o : ℕ) → f o < 2 ^ 24) → next_entry (total os f) ≡ total os (λ (o : ℕ). next_entry (f o))
total_next [] f h = refl
total_next (o ∷ os) f h = next_sum (f o) (total os f) (h o) (total_below os f h) ∙ ap (bit_xor (next_entry (f o))) (total_next os f h)

-- the CRC of bytes before n zeros
abbrev several : List ℕ → ℕ → ℕ
several v n = crc (v ++ replicate n 0)

several_split : (u v : List ℕ) (n : ℕ) → several (u ++ v) n ≡ bit_xor (several u (length v + n)) (several v n)
several_split u v n = grind (arith, length-append, length-replicate, append_assoc, split_check, bit_xor)

several_next : (v : List ℕ) (n m : ℕ) → m ≡ n + 1 → several v m ≡ next_entry (several v n)
several_next v n m e = grind (arith, common_steps, zero_after, append_assoc, replicate-append-replicate)

-- the same of one byte, as computed from the tables
abbrev moved : ℕ → ℕ → ℕ
moved zero x = x
moved (suc n) x = next_entry (moved n x)

moved_right : (n c : ℕ) → c < 256 → moved n (get_or TABLES c 0) ≡ several (c ∷ []) n
moved_right zero c h = table_right c h
moved_right (suc n) c h = ap next_entry (moved_right n c h) ∙ sym (several_next (c ∷ []) n (suc n) (omega arith))

multiple_entry : (c : ℕ) → c < 256 → moved 96 (get_or TABLES c 0) ≡ total offsets (λ (o : ℕ). moved o (get_or TABLES c 0))
multiple_entry c h = eqb-true _ _ (agree_below_at
    (λ (k : ℕ). eqb (moved 96 (get_or TABLES k 0)) (total offsets (λ (o : ℕ). moved o (get_or TABLES k 0))))
    (λ (k : ℕ). true) 256 c refl h)

low_byte : (c n : ℕ) → several (c % 256 ∷ []) n ≡ several (c ∷ []) n
unfolding crc bits_of
low_byte c n = ap (λ (t : List Bool). number (bits_remainder (t ++ bits_of (replicate n 0)))) (uint-mod 8 8 c (omega arith))

multiple_byte : (c t : ℕ) → several (c ∷ []) (96 + t) ≡ total offsets (λ (o : ℕ). several (c ∷ []) (o + t))
multiple_byte c zero =
    let i : c % 256 < 256 = omega arith in
    let low : (n : ℕ) → moved n (get_or TABLES (c % 256) 0) ≡ several (c ∷ []) n = λ (n : ℕ). moved_right n (c % 256) i ∙ low_byte c n in
    sym (low 96) ∙ multiple_entry (c % 256) i ∙ total_same offsets (λ (o : ℕ). moved o (get_or TABLES (c % 256) 0)) (λ (o : ℕ). several (c ∷ []) (o + 0)) (λ (o : ℕ). low o ∙ ap (several (c ∷ [])) (omega arith))
multiple_byte c (suc t) =
    several_next (c ∷ []) (96 + t) (96 + suc t) (omega arith) ∙ ap next_entry (multiple_byte c t)
    ∙ total_next offsets (λ (o : ℕ). several (c ∷ []) (o + t)) (λ (o : ℕ). check_below (c ∷ replicate (o + t) 0))
    ∙ sym (total_same offsets (λ (o : ℕ). several (c ∷ []) (o + suc t)) (λ (o : ℕ). next_entry (several (c ∷ []) (o + t))) (λ (o : ℕ). several_next (c ∷ []) (o + t) (o + suc t) (omega arith)))

multiple : (v : List ℕ) (t : ℕ) → several v (96 + t) ≡ total offsets (λ (o : ℕ). several v (o + t))
multiple [] t = check_zeros (96 + t) ∙ sym (total_same offsets (λ (o : ℕ). several [] (o + t)) (λ (o : ℕ). 0) (λ (o : ℕ). check_zeros (o + t)))
multiple (c ∷ v) t =
    let f : ℕ → ℕ = λ (o : ℕ). several (c ∷ []) (o + (length v + t)) in
    let g : ℕ → ℕ = λ (o : ℕ). several v (o + t) in
    let s : (o : ℕ) → several (c ∷ v) (o + t) ≡ bit_xor (several (c ∷ []) (o + (length v + t))) (several v (o + t)) =
    λ (o : ℕ). several_split (c ∷ []) v (o + t) ∙ ap (λ (n : ℕ). bit_xor (several (c ∷ []) n) (several v (o + t))) (omega arith) in
    s 96 ∙ ap (λ (n : ℕ). bit_xor n (several v (96 + t))) (multiple_byte c (length v + t)) ∙ ap (bit_xor (total offsets f)) (multiple v t)
    ∙ sym (total_sum offsets f g) ∙ sym (total_same offsets (λ (o : ℕ). several (c ∷ v) (o + t)) (λ (o : ℕ). bit_xor (f o) (g o)) s)

-- the CRC of bytes after others were folded to them
abbrev parts : List ℕ → List ℕ → ℕ → ℕ
parts os w t = total os (λ (o : ℕ). several (drop o w) (o + t))

pub length-fold : (os w m : List ℕ) → length (fold_at os w m) ≡ length m
length-fold [] w m = refl
length-fold (o ∷ os) w m = length-add (drop o w) (fold_at os w m) ∙ length-fold os w m

fold_check : (os w m : List ℕ) (t : ℕ) → Small os → 27 ≤ length w → length w + t ≡ length m → crc (fold_at os w m) ≡ bit_xor (parts os w t) (crc m)
fold_check [] w m t s h e = sym (xor_comm 0 (crc m) ∙ xor_zero_r (crc m))
fold_check (o ∷ os) w m t s h e = grind (arith, common_steps, sum_check, length-fold, length-drop, fold_check os w m t s.1 h e)

drop_swap : (k j : ℕ) (l : List ℕ) → drop k (drop j l) ≡ drop j (drop k l)
drop_swap k j l = let e : j + k ≡ k + j = omega arith in drop-drop k j l ∙ ap (λ (n : ℕ). drop n l) e ∙ sym (drop-drop j k l)

fold_drop : (k : ℕ) (os w m : List ℕ) → drop k (fold_at os w m) ≡ fold_at os (drop k w) (drop k m)
fold_drop k [] w m = refl
fold_drop k (o ∷ os) w m = grind (arith, drop-add, drop_swap, fold_drop k os w m)

parts_more : (os u v : List ℕ) (t : ℕ) → Small os → 27 ≤ length u → length v ≡ 16
    → parts os (u ++ v) t ≡ bit_xor (parts os u (16 + t)) (total os (λ (o : ℕ). several v (o + t)))
parts_more [] u v t s h k = refl
parts_more (o ∷ os) u v t s h k = grind (arith, drop-append-le, several_split, swap_inner, parts_more os u v t s.1 h k)

-- sixteen bytes are taken away
pub fold_step : (w a rest : List ℕ) (t : ℕ) → length w ≡ 96 → length a ≡ 16 → length rest ≡ 96 + t
    → crc (fold_into w (a ++ rest)) ≡ crc (fold_into (drop 16 w ++ take 16 (fold_into w (a ++ rest))) rest)
unfolding fold_into
fold_step w a rest t h k l =
    let s : List ℕ = fold_into w (a ++ rest) in
    let u : List ℕ = drop 16 w in
    let v : List ℕ = take 16 (fold_into w (a ++ rest)) in
    let o : List ℕ = fold_into (drop 16 w) rest in
    let ls : length (fold_into w (a ++ rest)) ≡ 16 + (96 + t) = length-fold offsets w (a ++ rest) ∙ length-append a rest ∙ omega (arith, k, l) in
    let lv : length (take 16 (fold_into w (a ++ rest))) ≡ 16 = length-take-le 16 s (omega (arith, ls)) in
    let lu : length (drop 16 w) ≡ 80 = length-drop 16 w ∙ omega (arith, h) in
    let lo : length (fold_into (drop 16 w) rest) ≡ 96 + t = length-fold offsets u rest ∙ l in
    let r : drop 16 (a ++ rest) ≡ rest = ap (λ (n : ℕ). drop n (a ++ rest)) (sym k) ∙ drop-append_seam a rest in
    let d : drop 16 (fold_into w (a ++ rest)) ≡ fold_into (drop 16 w) rest = fold_drop 16 offsets w (a ++ rest) ∙ ap (fold_into (drop 16 w)) r in
    let e : fold_into w (a ++ rest) ≡ v ++ o = sym (take-append-drop 16 s) ∙ ap (λ (q : List ℕ). v ++ q) d in
    let p : ℕ = parts offsets u (16 + t) in
    let before : crc (fold_into w (a ++ rest)) ≡ bit_xor (several v (96 + t)) (bit_xor p (crc rest)) =
    ap crc e ∙ split_check v o ∙ ap (λ (n : ℕ). bit_xor (several v n) (crc o)) lo ∙ ap (bit_xor (several v (96 + t))) (fold_check offsets u rest (16 + t) small (omega (arith, lu)) (omega (arith, lu, l))) in
    let lw : length (drop 16 w ++ v) ≡ 96 = length-append u v ∙ omega (arith, lu, lv) in
    let afterwards : crc (fold_into (drop 16 w ++ v) rest) ≡ bit_xor (bit_xor p (several v (96 + t))) (crc rest) =
    fold_check offsets (u ++ v) rest t small (omega (arith, lw)) (omega (arith, lw, l))
    ∙ ap (λ (n : ℕ). bit_xor n (crc rest)) (parts_more offsets u v t small (omega (arith, lu)) lv ∙ ap (bit_xor p) (sym (multiple v t))) in
    before ∙ sym (xor_assoc (several v (96 + t)) p (crc rest)) ∙ ap (λ (n : ℕ). bit_xor n (crc rest)) (xor_comm (several v (96 + t)) p) ∙ sym afterwards

-- the vectors of the code
zip_sum : (a b : List ℕ) → length a ≡ length b → zip2 bit_xor a b ≡ add_bytes a b
unfolding add_bytes
zip_sum [] [] h = refl
zip_sum [] (y ∷ b) h = absurd (omega (arith, h))
zip_sum (x ∷ a) [] h = absurd (omega (arith, h))
zip_sum (x ∷ a) (y ∷ b) h = ap (λ (t : List ℕ). bit_xor x y ∷ t) (zip_sum a b (omega (arith, h)))

within_two : (k : ℕ) (x y q : List ℕ) → k + 16 ≤ length (x ++ y) → take 16 (drop k (x ++ (y ++ q))) ≡ take 16 (drop k (x ++ y))
within_two k x y q h =
    ap (λ (l : List ℕ). take 16 (drop k l)) (sym (append_assoc x y q)) ∙ ap (take 16) (drop-append-le k (x ++ y) q (omega (arith, h)))
    ∙ take-append-le 16 (drop k (x ++ y)) q (omega (arith, length-drop k (x ++ y), h))

past_first : (k : ℕ) (f q : List ℕ) → length f ≡ 16 → drop (16 + k) (f ++ q) ≡ drop k q
past_first k f q h = ap (λ (n : ℕ). drop (n + k) (f ++ q)) (sym h) ∙ drop-append-add f q k

-- the first sixteen bytes, by vectors
abbrev vectors : List ℕ → List ℕ → List ℕ → List ℕ
vectors [] w b = take 16 b
vectors (o ∷ os) w b = zip2 bit_xor (take 16 (drop o w)) (vectors os w b)

first_vector : (os w b : List ℕ) → Small os → 43 ≤ length w → 16 ≤ length b → vectors os w b ≡ take 16 (fold_at os w b)
first_vector [] w b s h k = refl
first_vector (o ∷ os) w b s h k =
    let l : length (take 16 (drop o w)) ≡ 16 = length-take-le 16 (drop o w) (omega (arith, length-drop o w, s.0, h)) in
    let m : length (take 16 (fold_at os w b)) ≡ 16 = length-take-le 16 (fold_at os w b) (omega (arith, length-fold os w b, k)) in
    ap (zip2 bit_xor (take 16 (drop o w))) (first_vector os w b s.1 h k) ∙ zip_sum (take 16 (drop o w)) (take 16 (fold_at os w b)) (l ∙ sym m)
    ∙ sym (take-add_bytes 16 (drop o w) (fold_at os w b))

pub vector_next : {f s t u v x x1 x2 x3 x4 : List ℕ} (b : List ℕ) → Sixes f s t u v x → length b ≡ 16
    → x1 ≡ take 16 (drop 11 (s ++ t)) → x2 ≡ take 16 (drop 9 (s ++ t)) → x3 ≡ take 16 (drop 1 (s ++ t)) → x4 ≡ take 16 (drop 11 (f ++ s))
    → zip2 bit_xor x1 (zip2 bit_xor x2 (zip2 bit_xor x3 (zip2 bit_xor x4 (zip2 bit_xor f (take 16 b))))) ≡ take 16 (fold_into (f ++ (s ++ (t ++ (u ++ (v ++ x))))) b)
unfolding fold_into
vector_next {f} {s} {t} {u} {v} {x} {x1} {x2} {x3} {x4} b h hb p1 p2 p3 p4 =
    let r : List ℕ = u ++ (v ++ x) in
    let lst : length (s ++ t) ≡ 32 = length-append s t ∙ omega (arith, h.second, h.third) in
    let lfs : length (f ++ s) ≡ 32 = length-append f s ∙ omega (arith, h.first, h.second) in
    let lw : 43 ≤ length (f ++ (s ++ (t ++ r))) = omega (arith, h.first, h.second, h.third, length-append f (s ++ (t ++ r)), length-append s (t ++ r), length-append t r) in
    let q1 : take 16 (drop 27 (f ++ (s ++ (t ++ r)))) ≡ x1 = ap (take 16) (past_first 11 f (s ++ (t ++ r)) h.first) ∙ within_two 11 s t r (omega (arith, lst)) ∙ sym p1 in
    let q2 : take 16 (drop 25 (f ++ (s ++ (t ++ r)))) ≡ x2 = ap (take 16) (past_first 9 f (s ++ (t ++ r)) h.first) ∙ within_two 9 s t r (omega (arith, lst)) ∙ sym p2 in
    let q3 : take 16 (drop 17 (f ++ (s ++ (t ++ r)))) ≡ x3 = ap (take 16) (past_first 1 f (s ++ (t ++ r)) h.first) ∙ within_two 1 s t r (omega (arith, lst)) ∙ sym p3 in
    let q4 : take 16 (drop 11 (f ++ (s ++ (t ++ r)))) ≡ x4 = within_two 11 f s (t ++ r) (omega (arith, lfs)) ∙ sym p4 in
    let q5 : take 16 (f ++ (s ++ (t ++ r))) ≡ f = take-append-le 16 f (s ++ (t ++ r)) (omega (arith, h.first)) ∙ take_all 16 f (omega (arith, h.first)) in
    five_same q1 q2 q3 q4 q5 (take 16 b) ∙ first_vector offsets (f ++ (s ++ (t ++ r))) b small lw (omega (arith, hb))
  where
    five_same : {a b c d e p q r s t : List ℕ} → a ≡ p → b ≡ q → c ≡ r → d ≡ s → e ≡ t → (m : List ℕ)
        → zip2 bit_xor p (zip2 bit_xor q (zip2 bit_xor r (zip2 bit_xor s (zip2 bit_xor t m)))) ≡ zip2 bit_xor a (zip2 bit_xor b (zip2 bit_xor c (zip2 bit_xor d (zip2 bit_xor e m))))
    five_same f g h i j m = cc

pub vectors_moved : (f s t u v x n : List ℕ) → length f ≡ 16 → s ++ (t ++ (u ++ (v ++ (x ++ n)))) ≡ drop 16 (f ++ (s ++ (t ++ (u ++ (v ++ x))))) ++ n
vectors_moved f s t u v x n h =
    sym (ap (λ (l : List ℕ). l ++ n) (past_first 0 f (s ++ (t ++ (u ++ (v ++ x)))) h)
    ∙ append_assoc s (t ++ (u ++ (v ++ x))) n
    ∙ ap (λ (l : List ℕ). s ++ l) (append_assoc t (u ++ (v ++ x)) n
    ∙ ap (λ (l : List ℕ). t ++ l) (append_assoc u (v ++ x) n
    ∙ ap (λ (l : List ℕ). u ++ l) (append_assoc v x n))))

-- the register before the first byte
pub start_folded : (x : ℕ) (m : List ℕ) → x < 2 ^ 24 → 3 ≤ length m
    → after_bits (uint 24 x) (bits_of m) ≡ uint 24 (crc (fold_into (x / 65536 % 256 ∷ x / 256 % 256 ∷ x % 256 ∷ replicate 93 0) m))
unfolding fold_into add_bytes
start_folded x [] h k = absurd (omega (arith, k))
start_folded x (a ∷ []) h k = absurd (omega (arith, k))
start_folded x (a ∷ b ∷ []) h k = absurd (omega (arith, k))
start_folded x (a ∷ b ∷ c ∷ rest) h k =
    let m : List ℕ = a ∷ b ∷ c ∷ rest in
    let w : List ℕ = x / 65536 % 256 ∷ x / 256 % 256 ∷ x % 256 ∷ replicate 93 0 in
    let front : List ℕ = bit_xor (x / 65536 % 256) a ∷ bit_xor (x / 256 % 256) b ∷ bit_xor (x % 256) c ∷ [] in
    let y : List ℕ = add_bytes w m in
    let z : fold_into w m ≡ front ++ rest =
    zeros_on 69 (add_bytes (replicate 71 0) (add_bytes (replicate 79 0) (add_bytes (replicate 85 0) y)))
    ∙ zeros_on 71 (add_bytes (replicate 79 0) (add_bytes (replicate 85 0) y)) ∙ zeros_on 79 (add_bytes (replicate 85 0) y) ∙ zeros_on 85 y
    ∙ ap (λ (l : List ℕ). front ++ l) (zeros_on 93 rest) in
    into_bytes x (x / 65536 % 256) a b c rest (omega (arith, h)) ∙ ap (λ (l : List ℕ). uint 24 (crc l)) (sym z)

-- the last bytes, to which nothing but what was folded before is added
fold_zeros : (os u : List ℕ) (k : ℕ) (m : List ℕ) → Small os → 27 ≤ length u → fold_at os (u ++ replicate k 0) m ≡ fold_at os u m
fold_zeros [] u k m s h = refl
fold_zeros (o ∷ os) u k m s h = grind (arith, drop-append-le, zeros_end, fold_zeros os u k m s.1 h)

fold_none : (os : List ℕ) (n : ℕ) (m : List ℕ) → fold_at os (replicate n 0) m ≡ m
fold_none [] n m = refl
fold_none (o ∷ os) n m = ap (λ (t : List ℕ). add_bytes t (fold_at os (replicate n 0) m)) (drop-replicate o n 0) ∙ zeros_on (n - o) (fold_at os (replicate n 0) m) ∙ fold_none os n m

pub last_start : (m : List ℕ) → uint 24 (crc m) ≡ after_bits (uint 24 0) (bits_of m)
unfolding uint
last_start m = check_is m ∙ remainder_is (bits_of m)

pub last_step : (w m : List ℕ) (x y : ℕ) → length w ≡ 96 → uint 24 y ≡ after_bits (uint 24 x) (bits_of (take 16 (fold_into w m)))
    → after_bits (uint 24 x) (bits_of (fold_into w m)) ≡ after_bits (uint 24 y) (bits_of (fold_into (drop 16 w ++ replicate 16 0) (drop 16 m)))
unfolding fold_into
last_step w m x y h e =
    let s : List ℕ = fold_into w m in
    let d : drop 16 (fold_into w m) ≡ fold_into (drop 16 w ++ replicate 16 0) (drop 16 m) = fold_drop 16 offsets w m ∙ sym (fold_zeros offsets (drop 16 w) 16 (drop 16 m) small (omega (arith, length-drop 16 w, h))) in
    ap (λ (l : List ℕ). after_bits (uint 24 x) (bits_of l)) (sym (take-append-drop 16 s))
    ∙ ap (after_bits (uint 24 x)) (bits_of-append (take 16 s) (drop 16 s)) ∙ after_bits-append (uint 24 x) (bits_of (take 16 s)) (bits_of (drop 16 s))
    ∙ ap (λ (r : List Bool). after_bits r (bits_of (drop 16 s))) (sym e) ∙ ap (λ (l : List ℕ). after_bits (uint 24 y) (bits_of l)) d

pub last_window : (w : List ℕ) (t : ℕ) → t + 16 ≤ length w → drop 16 (drop t w ++ replicate t 0) ++ replicate 16 0 ≡ drop (t + 16) w ++ replicate (t + 16) 0
last_window w t h =
    ap (λ (l : List ℕ). l ++ replicate 16 0) (drop-append-le 16 (drop t w) (replicate t 0) (omega (arith, length-drop t w, h)) ∙ ap (λ (l : List ℕ). l ++ replicate t 0) (drop-drop 16 t w))
    ∙ append_assoc (drop (t + 16) w) (replicate t 0) (replicate 16 0) ∙ ap (λ (l : List ℕ). drop (t + 16) w ++ l) (replicate-append-replicate t 16 0)

pub last_end : (w m : List ℕ) → length w ≡ 96 → fold_into (drop 96 w ++ replicate 96 0) m ≡ m
unfolding fold_into
last_end w m h = ap (λ (l : List ℕ). fold_into (l ++ replicate 96 0) m) (ap (λ (n : ℕ). drop n w) (sym h) ∙ drop-length w) ∙ fold_none offsets 96 m
