-- A register that processes the bits of a message one by one has the remainder of the long division.
use Rattle.rtcm_bits.proofs.Names.{◌≡◌, ℕ, ◌<◌, ◌≤◌, Bool, false, List, [], ◌∷◌, ◌++◌, length, drop, replicate, refl, sym, ap, ◌∙◌, arith, length-append, suc, zero, lit<, length-replicate, uint, plus, add_front, generator, remainder, bits_remainder, after_bit, after_bits}

pub length-add_front : (g p : List Bool) → length (add_front g p) ≡ length p
unfolding add_front
length-add_front [] p = refl
length-add_front (a ∷ g) [] = refl
length-add_front (a ∷ g) (c ∷ p) = ap suc (length-add_front g p)

pub add_front_assoc : (g r p : List Bool) → length g ≤ length r → add_front g (add_front r p) ≡ add_front (add_front g r) p
unfolding add_front
add_front_assoc [] r p h = refl
add_front_assoc (a ∷ g) [] p h = absurd (omega arith)
add_front_assoc (a ∷ g) (b ∷ r) [] h = refl
add_front_assoc (a ∷ g) (b ∷ r) (c ∷ p) h = grind (arith, (add_front_assoc g r p (omega (arith, h))))

-- a coefficient of 0 adds nothing
pub add_front_zero : (r p : List Bool) → length r < length p → add_front (r ++ false ∷ []) p ≡ add_front r p
unfolding add_front
add_front_zero [] [] h = absurd (omega arith)
add_front_zero [] (c ∷ p) h = refl
add_front_zero (a ∷ r) [] h = refl
add_front_zero (a ∷ r) (c ∷ p) h = ap (λ q. plus a c ∷ q) (add_front_zero r p (omega (arith, h)))

-- nothing is added to zeros
pub add_front_to_zeros : (r : List Bool) → add_front r (replicate (length r) false) ≡ r
unfolding add_front
add_front_to_zeros [] = refl
add_front_to_zeros (a ∷ r) = grind (arith, (add_front_to_zeros r))

pub zeros_to_front : (n : ℕ) (p : List Bool) → add_front (replicate n false) p ≡ p
unfolding add_front
zeros_to_front zero p = refl
zeros_to_front (suc n) [] = refl
zeros_to_front (suc n) (c ∷ p) = ap (λ q. c ∷ q) (zeros_to_front n p)

pub length-generator : length (drop 1 generator) ≡ 24
unfolding generator uint
length-generator = refl

pub length-after_bit : (r : List Bool) (b : Bool) → 0 < length r → length (after_bit r b) ≡ length r
unfolding after_bit
length-after_bit r b h = grind (arith, length-add_front, length-append)

pub length-after_bits : (r bs : List Bool) → 0 < length r → length (after_bits r bs) ≡ length r
unfolding after_bits
length-after_bits r [] h = refl
length-after_bits r (b ∷ bs) h =
    let e : length (after_bit r b) ≡ length r = length-after_bit r b h in
    length-after_bits (after_bit r b) bs (omega arith) ∙ e

-- one step of the division
divide_step : (c m : Bool) (r p : List Bool) (n : ℕ) → length r ≡ 23 → 24 ≤ length p →
    remainder (suc n) (add_front (c ∷ r) (m ∷ p)) ≡ remainder n (add_front (after_bit (c ∷ r) m) p)
unfolding remainder add_front after_bit
divide_step c m r p n h k = grind (arith, add_front_zero, add_front_assoc, length-generator, length-append)

-- the whole division
pub divide_all : (r m : List Bool) → length r ≡ 24 → remainder (length m) (add_front r (m ++ replicate 24 false)) ≡ after_bits r m
unfolding remainder after_bits
divide_all r [] h =
    let e : add_front r (replicate 24 false) ≡ r = (let t = add_front_to_zeros r in rw h at t) in e
divide_all [] (b ∷ m) h = absurd (omega arith)
divide_all (c ∷ r) (b ∷ m) h = grind (arith, divide_step, length-append, length-replicate, length-after_bit, divide_all (after_bit (c ∷ r) b) m (length-after_bit (c ∷ r) b (omega arith) ∙ h))

pub after_bits-append : (r xs ys : List Bool) → after_bits r (xs ++ ys) ≡ after_bits (after_bits r xs) ys
unfolding after_bits
after_bits-append r [] ys = refl
after_bits-append r (x ∷ xs) ys = after_bits-append (after_bit r x) xs ys

-- the remainder is the final state of a register of zeros
pub remainder_is : (m : List Bool) → bits_remainder m ≡ after_bits (replicate 24 false) m
unfolding bits_remainder
remainder_is m = ap (remainder (length m)) (sym (zeros_to_front 24 (m ++ replicate 24 false))) ∙ divide_all (replicate 24 false) m refl

pub length-bits_remainder : (m : List Bool) → length (bits_remainder m) ≡ 24
length-bits_remainder m = ap length (remainder_is m) ∙ length-after_bits (replicate 24 false) m (lit< tt)

-- the remainder of a longer message
pub remainder-append : (m n : List Bool) → bits_remainder (m ++ n) ≡ after_bits (bits_remainder m) n
remainder-append m n = remainder_is (m ++ n) ∙ after_bits-append (replicate 24 false) m n ∙ ap (λ r. after_bits r n) (sym (remainder_is m))
