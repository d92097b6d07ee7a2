-- The CRC of a sum of bytes is the sum of their CRCs.
use Rattle.rtcm_bits.proofs.Names.{◌≡◌, ℕ, ◌+◌, ◌*◌, ◌^◌, ◌<◌, Bool, false, List, [], ◌∷◌, ◌++◌, length, drop, take, replicate, refl, sym, ap, ◌∙◌, arith, suc, zero, bit_xor, length-append, xor_zero_r, length-replicate, xor_lt, uint, number, bits_of, add_front, remainder, bits_remainder, crc, add_bytes, length-uint, length-bits_of, number_of-uint}
use Rattle.rtcm_bits.proofs.RegisterBits.{uint-xor}
use Rattle.rtcm_bits.proofs.CheckLemmas.{length-add_front, zeros_to_front}
use Rattle.rtcm_bits.proofs.RegisterLemmas.{check_is, check_below}
use Rattle.rtcm_bits.proofs.TableLemmas.{add_split, remainder_sum}

-- sums of bytes
pub drop-add : (k : ℕ) (a b : List ℕ) → drop k (add_bytes a b) ≡ add_bytes (drop k a) (drop k b)
unfolding add_bytes
drop-add zero a b = refl
drop-add (suc k) [] b = refl
drop-add (suc k) (x ∷ a) [] = none (drop k a)
  where
    none : (c : List ℕ) → [] ≡ add_bytes c []
    none [] = refl
    none (x ∷ c) = refl
drop-add (suc k) (x ∷ a) (y ∷ b) = drop-add k a b

pub take-add_bytes : (k : ℕ) (a b : List ℕ) → take k (add_bytes a b) ≡ add_bytes (take k a) (take k b)
unfolding add_bytes
take-add_bytes zero a b = refl
take-add_bytes (suc k) [] b = refl
take-add_bytes (suc k) (x ∷ a) [] = refl
take-add_bytes (suc k) (x ∷ a) (y ∷ b) = ap (λ (t : List ℕ). bit_xor x y ∷ t) (take-add_bytes k a b)

pub length-add : (a b : List ℕ) → length (add_bytes a b) ≡ length b
unfolding add_bytes
length-add [] b = refl
length-add (x ∷ a) [] = refl
length-add (x ∷ a) (y ∷ b) = ap suc (length-add a b)

pub zeros_on : (k : ℕ) (b : List ℕ) → add_bytes (replicate k 0) b ≡ b
unfolding add_bytes
zeros_on zero b = refl
zeros_on (suc k) [] = refl
zeros_on (suc k) (y ∷ b) = ap (λ (t : List ℕ). y ∷ t) (zeros_on k b)

pub zeros_end : (a : List ℕ) (k : ℕ) (b : List ℕ) → add_bytes (a ++ replicate k 0) b ≡ add_bytes a b
unfolding add_bytes
zeros_end [] k b = zeros_on k b
zeros_end (x ∷ a) k [] = refl
zeros_end (x ∷ a) k (y ∷ b) = ap (λ (t : List ℕ). bit_xor x y ∷ t) (zeros_end a k b)

bits_of_sum : (a b : List ℕ) → bits_of (add_bytes a b) ≡ add_front (bits_of a) (bits_of b)
unfolding add_bytes bits_of add_front uint
bits_of_sum [] b = refl
bits_of_sum (x ∷ a) [] = refl
bits_of_sum (x ∷ a) (y ∷ b) =
    ap (λ (t : List Bool). uint 8 (bit_xor x y) ++ t) (bits_of_sum a b) ∙ ap (λ (t : List Bool). t ++ add_front (bits_of a) (bits_of b)) (uint-xor 8 x y)
    ∙ sym (add_split (uint 8 x) (uint 8 y) (bits_of a) (bits_of b) (length-uint 8 x ∙ sym (length-uint 8 y)))

-- the remainder of a sum
sum_remainder : (p q : List Bool) → length p ≡ length q → bits_remainder (add_front p q) ≡ add_front (bits_remainder p) (bits_remainder q)
unfolding bits_remainder
sum_remainder p q h =
    let z : List Bool = replicate 24 false in
    let lp : length (p ++ replicate 24 false) ≡ length p + 24 = length-append p (replicate 24 false) in
    let lq : length (q ++ replicate 24 false) ≡ length q + 24 = length-append q (replicate 24 false) in
    let s : add_front (p ++ replicate 24 false) (q ++ replicate 24 false) ≡ add_front p q ++ replicate 24 false = add_split p q z z h ∙ ap (λ (t : List Bool). add_front p q ++ t) (zeros_to_front 24 (replicate 24 false)) in
    ap (λ (n : ℕ). remainder n (add_front p q ++ replicate 24 false)) (length-add_front p q) ∙ ap (remainder (length q)) (sym s)
    ∙ remainder_sum (length q) (p ++ replicate 24 false) (q ++ replicate 24 false) (omega (arith, lp, lq, h)) (omega (arith, lp, h))
    ∙ ap (λ (n : ℕ). add_front (remainder n (p ++ replicate 24 false)) (remainder (length q) (q ++ replicate 24 false))) (sym h)

pub number_is : (x y : ℕ) → x < 2 ^ 24 → y < 2 ^ 24 → uint 24 x ≡ uint 24 y → x ≡ y
number_is x y h k e = sym (number_of-uint 24 x h) ∙ ap number e ∙ number_of-uint 24 y k

-- the CRC of a sum
pub sum_same : (a b : List ℕ) → length a ≡ length b → crc (add_bytes a b) ≡ bit_xor (crc a) (crc b)
sum_same a b h =
    let l : length (bits_of a) ≡ length (bits_of b) = length-bits_of a ∙ ap (λ (n : ℕ). 8 * n) h ∙ sym (length-bits_of b) in
    number_is (crc (add_bytes a b)) (bit_xor (crc a) (crc b)) (check_below (add_bytes a b)) (xor_lt 24 (crc a) (crc b) (check_below a) (check_below b))
    (check_is (add_bytes a b) ∙ ap bits_remainder (bits_of_sum a b) ∙ sum_remainder (bits_of a) (bits_of b) l
    ∙ ap (λ (t : List Bool). add_front t (bits_remainder (bits_of b))) (sym (check_is a)) ∙ ap (add_front (uint 24 (crc a))) (sym (check_is b)) ∙ sym (uint-xor 24 (crc a) (crc b)))

-- the CRC of bytes is the sum of those of its parts, the first one followed by zeros
zeros_first : (n : ℕ) (m : List ℕ) → crc (replicate n 0 ++ m) ≡ crc m
unfolding crc bits_remainder remainder bits_of uint
zeros_first zero m = refl
zeros_first (suc n) m = zeros_first n m

padded : (v t : List ℕ) → add_bytes (v ++ replicate (length t) 0) (replicate (length v) 0 ++ t) ≡ v ++ t
unfolding add_bytes
padded [] t = zeros_on (length t) t
padded (c ∷ v) t = ap (λ (n : ℕ). n ∷ add_bytes (v ++ replicate (length t) 0) (replicate (length v) 0 ++ t)) (xor_zero_r c) ∙ ap (λ (l : List ℕ). c ∷ l) (padded v t)

pub split_check : (v t : List ℕ) → crc (v ++ t) ≡ bit_xor (crc (v ++ replicate (length t) 0)) (crc t)
split_check v t =
    let a : length (v ++ replicate (length t) 0) ≡ length v + length t = length-append v (replicate (length t) 0) ∙ ap (λ (n : ℕ). length v + n) (length-replicate (length t) 0) in
    let b : length (replicate (length v) 0 ++ t) ≡ length v + length t = length-append (replicate (length v) 0) t ∙ ap (λ (n : ℕ). n + length t) (length-replicate (length v) 0) in
    ap crc (sym (padded v t)) ∙ sum_same (v ++ replicate (length t) 0) (replicate (length v) 0 ++ t) (a ∙ sym b)
    ∙ ap (bit_xor (crc (v ++ replicate (length t) 0))) (zeros_first (length v) t)
