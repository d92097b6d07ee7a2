-- A message followed by its CRC has the remainder 0, and followed by no other three bytes.
use Rattle.rtcm_bits.proofs.Names.{◌≡◌, ℕ, ◌+◌, ◌*◌, ◌^◌, ◌<◌, ◌≤◌, Bool, true, false, List, [], ◌∷◌, ◌++◌, length, take, drop, get_or, replicate, refl, sym, ap, ◌∙◌, arith, length-append, suc, zero, true≢false, append-nil, length-replicate, get_or_push, take-append-le, take_all, uint, number, number_from, bits_of, plus, add_front, generator, remainder, bits_remainder, crc, after_bit, after_bits, length-uint, uint-number, bits_of-append, number-split, number_of-uint}
use Rattle.rtcm_bits.proofs.CheckLemmas.{divide_all, remainder-append, length-bits_remainder, length-add_front, add_front_to_zeros, length-after_bit, length-after_bits, length-generator}
use Rattle.rtcm_bits.proofs.BitLemmas as bit_lemmas

pub add_front-append : (g p q : List Bool) → length g ≤ length p → add_front g (p ++ q) ≡ add_front g p ++ q
unfolding add_front
add_front-append [] p q h = refl
add_front-append (a ∷ g) [] q h = absurd (omega arith)
add_front-append (a ∷ g) (c ∷ p) q h = ap (λ r. plus a c ∷ r) (add_front-append g p q (omega (arith, h)))

plus-same : (a : Bool) → plus a a ≡ false
plus-same a = grind arith

plus-none : (a c : Bool) → plus a c ≡ false → a ≡ c
plus-none a c h = grind arith

pub add_front-same : (r : List Bool) → add_front r r ≡ replicate (length r) false
unfolding add_front
add_front-same [] = refl
add_front-same (a ∷ r) = let e : plus a a ≡ false = plus-same a in let t : add_front r r ≡ replicate (length r) false = add_front-same r in cc

add_front-none : (r n : List Bool) → length r ≡ length n → add_front r n ≡ replicate (length n) false → r ≡ n
unfolding add_front
add_front-none [] [] l h = refl
add_front-none [] (b ∷ n) l h = absurd (omega arith)
add_front-none (a ∷ r) [] l h = absurd (omega arith)
add_front-none (a ∷ r) (b ∷ n) l h =
    let x : plus a b ≡ false = cc in
    let y : add_front r n ≡ replicate (length n) false = cc in
    let e : a ≡ b = plus-none a b x in
    let f : r ≡ n = add_front-none r n (omega (arith, l)) y in cc

get_or-add_front : (g p : List Bool) (i : ℕ) → i < length g → length g ≡ length p → get_or (add_front g p) i false ≡ plus (get_or g i false) (get_or p i false)
unfolding add_front
get_or-add_front [] p i h l = absurd (omega arith)
get_or-add_front (a ∷ g) [] i h l = absurd (omega arith)
get_or-add_front (a ∷ g) (c ∷ p) zero h l = refl
get_or-add_front (a ∷ g) (c ∷ p) (suc i) h l = get_or-add_front g p i (omega (arith, h)) (omega (arith, l))

-- a step of the register with a bit of 0 gives zeros only from zeros
last_generator : get_or (drop 1 generator) 23 false ≡ true
unfolding generator uint
last_generator = refl

step_none : (r : List Bool) → length r ≡ 24 → after_bit r false ≡ replicate 24 false → r ≡ replicate 24 false
unfolding after_bit
step_none [] l h = absurd (omega arith)
step_none (true ∷ r) l h =
    let n : length (r ++ false ∷ []) ≡ 24 = omega (arith, l, length-append r (false ∷ [])) in
    let g : get_or (add_front (drop 1 generator) (r ++ false ∷ [])) 23 false ≡ plus (get_or (drop 1 generator) 23 false) (get_or (r ++ false ∷ []) 23 false) =
    get_or-add_front (drop 1 generator) (r ++ false ∷ []) 23 (omega (arith, length-generator)) (length-generator ∙ sym n) in
    let z : get_or (r ++ false ∷ []) 23 false ≡ false = get_or_push r false false 23 (omega (arith, l)) in
    let y : plus (get_or (drop 1 generator) 23 false) (get_or (r ++ false ∷ []) 23 false) ≡ true = rw (last_generator, z) refl in
    absurd (true≢false (sym (ap (λ q. get_or q 23 false) (sym h) ∙ g ∙ y)))
step_none (false ∷ r) l h =
    let e : take 23 (r ++ false ∷ []) ≡ take 23 r = take-append-le 23 r (false ∷ []) (omega (arith, l)) in
    let f : take 23 r ≡ r = take_all 23 r (omega (arith, l)) in
    ap (λ q. false ∷ q) (sym f ∙ sym e ∙ ap (take 23) h)

steps_none : (k : ℕ) (r : List Bool) → length r ≡ 24 → after_bits r (replicate k false) ≡ replicate 24 false → r ≡ replicate 24 false
unfolding after_bits
steps_none zero r l h = h
steps_none (suc k) r l h = grind (arith, step_none, length-after_bit, steps_none k (after_bit r false) (length-after_bit r false (omega arith) ∙ l) h)

-- a register and 24 further bits
sum_after : (r n : List Bool) → length r ≡ 24 → length n ≡ 24 → after_bits r n ≡ after_bits (add_front r n) (replicate 24 false)
sum_after r n l k =
    let m : length (add_front r n) ≡ 24 = length-add_front r n ∙ k in
    let z : length (replicate 24 false) ≡ 24 = length-replicate 24 false in
    let a : remainder (length n) (add_front r (n ++ replicate 24 false)) ≡ after_bits r n = divide_all r n l in
    let b : remainder (length (replicate 24 false)) (add_front (add_front r n) (replicate 24 false ++ replicate 24 false)) ≡ after_bits (add_front r n) (replicate 24 false) = divide_all (add_front r n) (replicate 24 false) m in
    let c : add_front r (n ++ replicate 24 false) ≡ add_front r n ++ replicate 24 false = add_front-append r n (replicate 24 false) (omega arith) in
    let y : add_front (add_front r n) (replicate (length (add_front r n)) false) ≡ add_front r n = add_front_to_zeros (add_front r n) in
    let y' : add_front (add_front r n) (replicate 24 false) ≡ add_front r n = (rw m at y) in
    let e : add_front (add_front r n) (replicate 24 false ++ replicate 24 false) ≡ add_front r n ++ replicate 24 false =
    add_front-append (add_front r n) (replicate 24 false) (replicate 24 false) (omega arith) ∙ ap (λ q. q ++ replicate 24 false) y' in
    sym a ∙ ap (λ q. remainder q (add_front r (n ++ replicate 24 false))) k ∙ ap (remainder 24) (c ∙ sym e) ∙ ap (λ q. remainder q (add_front (add_front r n) (replicate 24 false ++ replicate 24 false))) (sym z) ∙ b

zeros_after : after_bits (replicate 24 false) (replicate 24 false) ≡ replicate 24 false
unfolding after_bits after_bit
zeros_after = refl

pub after_none : (r n : List Bool) → length r ≡ 24 → length n ≡ 24 → after_bits r n ≡ replicate 24 false → r ≡ n
after_none r n l k h = grind (arith, length-add_front, steps_none, sum_after, add_front-none)

pub after_same : (r : List Bool) → length r ≡ 24 → after_bits r r ≡ replicate 24 false
after_same r l = grind (arith, add_front-same, sum_after, zeros_after)

number-append : (a b : List Bool) → number (a ++ b) ≡ number a * 2 ^ length b + number b
number-append a b = bit_lemmas.number-append a b 0 ∙ number-split b (number a)

-- the 24 bits of three bytes
three : ℕ → ℕ → ℕ → List Bool
three x y z = uint 8 x ++ (uint 8 y ++ uint 8 z)

length-three : (x y z : ℕ) → length (three x y z) ≡ 24
unfolding three
length-three x y z = length-append (uint 8 x) (uint 8 y ++ uint 8 z) ∙ ap (λ n. length (uint 8 x) + n) (length-append (uint 8 y) (uint 8 z)) ∙ omega (arith, length-uint 8 x, length-uint 8 y, length-uint 8 z)

number-three : (x y z : ℕ) → x < 256 → y < 256 → z < 256 → number (three x y z) ≡ x * 65536 + y * 256 + z
unfolding three
number-three x y z h k l = grind (arith, number_of-uint, length-append, length-uint, number-append, three)

bytes_three : (x y z : ℕ) → bits_of (x ∷ y ∷ z ∷ []) ≡ three x y z
unfolding bits_of three uint
bytes_three x y z = ap (λ q. uint 8 x ++ (uint 8 y ++ q)) (append-nil (uint 8 z))

check_three : (m : List ℕ) (x y z : ℕ) → crc (m ++ x ∷ y ∷ z ∷ []) ≡ number (after_bits (bits_remainder (bits_of m)) (three x y z))
unfolding crc bits_of
check_three m x y z = grind (arith, three, bits_of-append, bytes_three, remainder-append)

number_zeros : number (replicate 24 false) ≡ 0
unfolding number_from
number_zeros = refl

bits_same : (r n : List Bool) → length r ≡ 24 → length n ≡ 24 → number r ≡ number n → r ≡ n
bits_same r n l k e =
    let b : uint 24 (number n) ≡ n = ap (λ q. uint q (number n)) (sym k) ∙ uint-number n 0 in
    sym (ap (λ q. uint q (number r)) (sym l) ∙ uint-number r 0) ∙ ap (uint 24) e ∙ b

-- the remainder is 0 if the three bytes after a message are its CRC
pub residue_check : (m : List ℕ) (x y z : ℕ) → x < 256 → y < 256 → z < 256 → crc (m ++ x ∷ y ∷ z ∷ []) ≡ 0 → x * 65536 + y * 256 + z ≡ crc m
unfolding crc
residue_check m x y z h k l e =
    let r = bits_remainder (bits_of m) in
    let n = length-bits_remainder (bits_of m) in
    let p : length (after_bits r (three x y z)) ≡ 24 = length-after_bits r (three x y z) (omega arith) ∙ n in
    let a : after_bits r (three x y z) ≡ replicate 24 false = bits_same _ _ p (length-replicate 24 false) (sym (check_three m x y z) ∙ e ∙ sym number_zeros) in
    sym (ap number (after_none r (three x y z) n (length-three x y z) a) ∙ number-three x y z h k l)

pub residue_none : (m : List ℕ) (x y z : ℕ) → x < 256 → y < 256 → z < 256 → x * 65536 + y * 256 + z ≡ crc m → crc (m ++ x ∷ y ∷ z ∷ []) ≡ 0
unfolding crc
residue_none m x y z h k l e =
    let r = bits_remainder (bits_of m) in
    let n = length-bits_remainder (bits_of m) in
    let s : three x y z ≡ r = bits_same (three x y z) r (length-three x y z) n (number-three x y z h k l ∙ e) in
    check_three m x y z ∙ ap (λ q. number (after_bits r q)) s ∙ ap number (after_same r n) ∙ number_zeros
