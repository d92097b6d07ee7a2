-- Bits of numbers that are joined, cut, doubled and added without carry.
use Rattle.rtcm_bits.proofs.Names.{◌≡◌, ℕ, ◌+◌, ◌-◌, ◌*◌, ◌/◌, ◌%◌, ◌^◌, ◌<◌, ◌≤◌, eqb, ◌∷◌, ◌++◌, refl, sym, ap, ◌∙◌, arith, suc, zero, bit_xor, div-add-mod', bit_at_cat_low, bit_at_cat_high, bit_at_xor, bit_at-lt, bit_at, odd, uint, plus, add_front}

-- only the low bits count
pub uint-cat : (w a k b : ℕ) → w ≤ k → uint w (a * 2 ^ k + b) ≡ uint w b
unfolding uint
uint-cat zero a k b h = refl
uint-cat (suc w) a k b h = grind (arith, bit_at_cat_low, uint-cat w a k b (omega arith))

pub uint-mod : (w k n : ℕ) → w ≤ k → uint w (n % 2 ^ k) ≡ uint w n
uint-mod w k n h = sym (uint-cat w (n / 2 ^ k) k (n % 2 ^ k) h) ∙ ap (uint w) (div-add-mod' n (2 ^ k))

-- the upper and the lower bits of a number
pub uint-split : (w k a c : ℕ) → c < 2 ^ k → uint (w + k) (a * 2 ^ k + c) ≡ uint w a ++ uint k c
unfolding uint
uint-split zero k a c h = ap (λ j. uint j (a * 2 ^ k + c)) (let z : 0 + k ≡ k = omega arith in z) ∙ uint-cat k a k c (omega arith)
uint-split (suc w) k a c h =
    let z : suc w + k ≡ suc (w + k) = omega arith in
    let m : w + k - k ≡ w = omega arith in
    let e : bit_at (a * 2 ^ k + c) (w + k) ≡ bit_at a (w + k - k) = bit_at_cat_high a k c (w + k) h (omega arith) in
    let r : uint (w + k) (a * 2 ^ k + c) ≡ uint w a ++ uint k c = uint-split w k a c h in
    ap (λ j. uint j (a * 2 ^ k + c)) z ∙ ap (λ q. eqb q 1 ∷ uint (w + k) (a * 2 ^ k + c)) (e ∙ ap (bit_at a) m) ∙ ap (λ q. odd (a / 2 ^ w) ∷ q) r

plus_is : (s t : ℕ) → s < 2 → t < 2 → eqb ((s + t) % 2) 1 ≡ plus (eqb s 1) (eqb t 1)
plus_is s t h k = grind arith

-- the exclusive or of two numbers is the sum of their bits
pub uint-xor : (w a b : ℕ) → uint w (bit_xor a b) ≡ add_front (uint w a) (uint w b)
unfolding uint add_front
uint-xor zero a b = refl
uint-xor (suc w) a b = grind (arith, bit_xor, bit_at_xor, plus_is, bit_at-lt, (uint-xor w a b))
