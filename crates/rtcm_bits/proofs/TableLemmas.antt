-- A table of the CRCs of single bytes gives the register after eight bits.
use Rattle.rtcm_bits.proofs.Names.{◌≡◌, ℕ, ◌+◌, ◌*◌, ◌/◌, ◌%◌, ◌^◌, ◌<◌, ◌≤◌, Bool, true, false, eqb, List, [], ◌∷◌, ◌++◌, length, drop, get_or, replicate, refl, sym, ap, ◌∙◌, arith, length-append, suc, zero, bit_and, bit_xor, agree_below_at, eqb-true, append-nil, length-replicate, and_mask, xor_comm, xor_lt, mod-eq_of_lt, div-add-mod', uint, number_from, bits_of, plus, add_front, generator, remainder, bits_remainder, crc, after_bits, TABLES, length-uint, common_steps}
use Rattle.rtcm_bits.proofs.RegisterBits.{uint-xor, uint-split}
use Rattle.rtcm_bits.proofs.CheckLemmas.{divide_all, length-add_front, add_front_to_zeros, zeros_to_front, add_front_assoc, length-generator}
use Rattle.rtcm_bits.proofs.ResidueLemmas.{add_front-append, add_front-same}
use Rattle.rtcm_bits.proofs.RegisterLemmas.{check_is, check_below}

pub table_right : (i : ℕ) → i < 256 → get_or TABLES i 0 ≡ crc (i ∷ [])
unfolding crc bits_remainder remainder add_front generator uint number_from bits_of
table_right i h = eqb-true (get_or TABLES i 0) (crc (i ∷ [])) (agree_below_at (λ k. eqb (get_or TABLES k 0) (crc (k ∷ []))) (λ k. true) 256 i refl h)

add_front_comm : (p q : List Bool) → length p ≡ length q → add_front p q ≡ add_front q p
unfolding add_front
add_front_comm [] [] h = refl
add_front_comm [] (b ∷ q) h = absurd (omega arith)
add_front_comm (a ∷ p) [] h = absurd (omega arith)
add_front_comm (a ∷ p) (b ∷ q) h = grind (arith, (add_front_comm p q (omega (arith, h))))

-- the sum of two equal lists is zero
add_twice : (g p : List Bool) → length g ≤ length p → add_front g (add_front g p) ≡ p
add_twice g p h = add_front_assoc g g p (omega arith) ∙ ap (λ r. add_front r p) (add_front-same g) ∙ zeros_to_front (length g) p

-- division keeps sums
step_second : (g p q : List Bool) → length p ≡ length q → length g ≤ length p → add_front p (add_front g q) ≡ add_front g (add_front p q)
step_second g p q h k = grind (arith, add_front_comm, length-add_front, add_front_assoc)

pub remainder_sum : (n : ℕ) (p q : List Bool) → length p ≡ length q → n + 24 ≤ length p → remainder n (add_front p q) ≡ add_front (remainder n p) (remainder n q)
unfolding remainder add_front
remainder_sum zero p q h k = refl
remainder_sum (suc n) [] q h k = absurd (omega arith)
remainder_sum (suc n) (a ∷ p) [] h k = absurd (omega arith)
remainder_sum (suc n) (true ∷ p) (true ∷ q) h k =
    let g = drop 1 generator in
    let lg : length (drop 1 generator) ≡ 24 = length-generator in
    let l : length p ≡ length q = omega (arith, h) in
    let a : length (add_front (drop 1 generator) p) ≡ length p = length-add_front g p in
    let b : length (add_front (drop 1 generator) q) ≡ length q = length-add_front g q in
    let e : add_front (add_front (drop 1 generator) p) (add_front (drop 1 generator) q) ≡ add_front p q =
    sym (add_front_assoc g p (add_front g q) (omega (arith, k))) ∙ ap (add_front g) (step_second g p q l (omega (arith, k))) ∙ add_twice g (add_front p q) (omega (arith, k, length-add_front p q)) in
    ap (remainder n) (sym e) ∙ remainder_sum n (add_front g p) (add_front g q) (omega arith) (omega (arith, k))
remainder_sum (suc n) (true ∷ p) (false ∷ q) h k =
    let g = drop 1 generator in
    let lg : length (drop 1 generator) ≡ 24 = length-generator in
    let a : length (add_front (drop 1 generator) p) ≡ length p = length-add_front g p in
    ap (remainder n) (add_front_assoc g p q (omega (arith, k))) ∙ remainder_sum n (add_front g p) q (omega (arith, h)) (omega (arith, k))
remainder_sum (suc n) (false ∷ p) (true ∷ q) h k =
    let g = drop 1 generator in
    let lg : length (drop 1 generator) ≡ 24 = length-generator in
    let l : length p ≡ length q = omega (arith, h) in
    let b : length (add_front (drop 1 generator) q) ≡ length q = length-add_front g q in
    ap (remainder n) (sym (step_second g p q l (omega (arith, k)))) ∙ remainder_sum n p (add_front g q) (omega arith) (omega (arith, k))
remainder_sum (suc n) (false ∷ p) (false ∷ q) h k = remainder_sum n p q (omega (arith, h)) (omega (arith, k))

remainder_zeros : (n : ℕ) (q : List Bool) → remainder n (replicate n false ++ q) ≡ q
unfolding remainder
remainder_zeros zero q = refl
remainder_zeros (suc n) q = remainder_zeros n q

pub add_split : (a b x y : List Bool) → length a ≡ length b → add_front (a ++ x) (b ++ y) ≡ add_front a b ++ add_front x y
unfolding add_front
add_split [] [] x y h = refl
add_split [] (d ∷ b) x y h = absurd (omega arith)
add_split (c ∷ a) [] x y h = absurd (omega arith)
add_split (c ∷ a) (d ∷ b) x y h = ap (λ q. plus c d ∷ q) (add_split a b x y (omega (arith, h)))

pub add_to_zeros : (r : List Bool) (k : ℕ) → add_front r (replicate (length r) false ++ replicate k false) ≡ r ++ replicate k false
add_to_zeros r k = add_front-append r (replicate (length r) false) (replicate k false) (omega (arith, length-replicate (length r) false)) ∙ ap (λ q. q ++ replicate k false) (add_front_to_zeros r)

-- eight bits at once
pub eight_steps : (x y b : List Bool) → length x ≡ 8 → length y ≡ 16 → length b ≡ 8 → after_bits (x ++ y) b ≡ add_front (bits_remainder (add_front x b)) (y ++ replicate 8 false)
unfolding bits_remainder
eight_steps x y b h k l =
    let d = add_front x b in
    let q = y ++ replicate 8 false in
    let m : length (add_front x b) ≡ 8 = length-add_front x b ∙ l in
    let r : length (x ++ y) ≡ 24 = length-append x y ∙ omega (arith, h, k) in
    let z : add_front y (replicate 24 false) ≡ y ++ replicate 8 false = (let t = add_to_zeros y 8 in (rw k at t)) in
    let a : add_front (x ++ y) (b ++ replicate 24 false) ≡ add_front x b ++ (y ++ replicate 8 false) = add_split x b y (replicate 24 false) (h ∙ sym l) ∙ ap (λ t. add_front x b ++ t) z in
    let w : add_front (add_front x b ++ replicate 24 false) (replicate 8 false ++ (y ++ replicate 8 false)) ≡ add_front x b ++ (y ++ replicate 8 false) =
    add_split d (replicate 8 false) (replicate 24 false) q m ∙ ap (λ t. t ++ add_front (replicate 24 false) q) (let t = add_front_to_zeros d in (rw m at t)) ∙ ap (λ t. d ++ t) (zeros_to_front 24 q) in
    let lq : length (y ++ replicate 8 false) ≡ 24 = length-append y (replicate 8 false) ∙ ap (λ t. t + 8) k in
    let ld : length (add_front x b ++ replicate 24 false) ≡ 32 = length-append d (replicate 24 false) ∙ ap (λ t. t + 24) m in
    let lz : length (replicate 8 false ++ (y ++ replicate 8 false)) ≡ 32 = length-append (replicate 8 false) q ∙ ap (λ t. 8 + t) lq in
    sym (divide_all (x ++ y) b r) ∙ ap (λ t. remainder t (add_front (x ++ y) (b ++ replicate 24 false))) l ∙ ap (remainder 8) (a ∙ sym w)
    ∙ remainder_sum 8 (d ++ replicate 24 false) (replicate 8 false ++ q) (ld ∙ sym lz) (omega (arith, ld))
    ∙ ap (add_front (remainder 8 (d ++ replicate 24 false))) (remainder_zeros 8 q)
    ∙ ap (λ t. add_front (remainder t (d ++ replicate 24 false)) q) (sym m)

uint-none : uint 8 0 ≡ replicate 8 false
unfolding uint
uint-none = refl

-- the register after a byte, by the table
pub table_step : (x y b t : ℕ) → x < 2 ^ 24 → b < 256 → t ≡ crc (bit_xor (x / 65536) b ∷ []) → y ≡ bit_xor (bit_and x 65535 * 256) t → uint 24 y ≡ after_bits (uint 24 x) (uint 8 b)
unfolding bits_of
table_step x y b t h k e f =
    let i = bit_xor (x / 65536) b in
    let m : bit_and x 65535 ≡ x % 65536 = and_mask x 16 in
    let sp : uint 24 x ≡ uint 8 (x / 65536) ++ uint 16 (x % 65536) = ap (uint 24) (sym (div-add-mod' x (2 ^ 16))) ∙ uint-split 8 16 (x / 65536) (x % 65536) (omega arith) in
    let sh : uint 24 (x % 65536 * 256) ≡ uint 16 (x % 65536) ++ replicate 8 false = ap (uint 24) (let z : x % 65536 * 256 ≡ x % 65536 * 2 ^ 8 + 0 = omega arith in z) ∙ uint-split 16 8 (x % 65536) 0 (omega arith) ∙ ap (λ q. uint 16 (x % 65536) ++ q) uint-none in
    let ck : uint 24 t ≡ bits_remainder (uint 8 i) = ap (uint 24) e ∙ check_is (i ∷ []) ∙ ap bits_remainder (append-nil (uint 8 i)) in
    let d : uint 8 i ≡ add_front (uint 8 (x / 65536)) (uint 8 b) = uint-xor 8 (x / 65536) b in
    ap (uint 24) (f ∙ xor_comm (bit_and x 65535 * 256) t) ∙ uint-xor 24 t (bit_and x 65535 * 256)
    ∙ ap (λ q. add_front (uint 24 t) (uint 24 (q * 256))) m ∙ ap (add_front (uint 24 t)) sh ∙ ap (λ q. add_front q (uint 16 (x % 65536) ++ replicate 8 false)) (ck ∙ ap bits_remainder d)
    ∙ sym (eight_steps (uint 8 (x / 65536)) (uint 16 (x % 65536)) (uint 8 b) (length-uint 8 _) (length-uint 16 _) (length-uint 8 b))
    ∙ ap (λ q. after_bits q (uint 8 b)) (sym sp)

-- the register moved up by a byte
pub moved_up : (x t : ℕ) → bit_xor (bit_and x 65535 * 256 % 4294967296) t ≡ bit_xor (bit_and x 65535 * 256) t
moved_up x t = grind (arith, common_steps, mod-eq_of_lt, and_mask)

pub table_below : (x t i : ℕ) → t ≡ crc (i ∷ []) → bit_xor (bit_and x 65535 * 256 % 4294967296) t < 2 ^ 24
table_below x t i e =
    let b : crc (i ∷ []) < 2 ^ 24 = check_below (i ∷ []) in
    xor_lt 24 (bit_and x 65535 * 256 % 4294967296) t (rw (and_mask x 16) (omega arith)) (rw e b)
