-- Laws of the definitions of Bits: numbers of w bits, lists of bits and two's complements.
use Rattle.std.proofs.Common.{ℕ, zero, suc, ℤ, pos, negsuc, ◌≡◌, ◌+◌, ◌-◌, ◌*◌, ◌/◌, ◌%◌, ◌^◌, ◌<◌, ◌≤◌, Bool, List, [], ◌∷◌, ◌++◌, length, take, refl, ap, ◌∙◌, arith, append_assoc, length-append, add_comm}
use Rattle.std.proofs.lemmas.Nat.{mod-pow-add, shr_high, pow_pos}
use Rattle.std.proofs.Math.Nat.{add-mul-div_right, mod-eq_of_lt, pow-le-pow_right}
use Rattle.std.proofs.lemmas.Bool.{cases_lt}
use Rattle.std.proofs.lemmas.List.{length-take-le}
use mir.Val.{bool_byte}
use Rattle.rtcm_bits.specs.Bits.{bit, odd, uint, number_from, number, bits_of, signed, raw, FitsInt}
use Rattle.std.proofs.lemmas.Grind.{common_steps}

pub bit_odd : (n : ℕ) → bit (odd n) ≡ n % 2
bit_odd n = grind arith

pub odd_bit : (n : ℕ) (b : Bool) → odd (2 * n + bit b) ≡ b
odd_bit n b = grind arith

pub length-uint : (w n : ℕ) → length (uint w n) ≡ w
unfolding uint
length-uint zero n = refl
length-uint (suc w) n = ap suc (length-uint w n)

-- the top bit of w + 1, and the others
pub mod-suc : (w n : ℕ) → n % 2 ^ suc w ≡ n / 2 ^ w % 2 * 2 ^ w + n % 2 ^ w
mod-suc w n = ap (λ k. n % 2 ^ k) (omega arith) ∙ mod-pow-add n 1 w

pub pow-double : (w : ℕ) → 2 ^ suc w ≡ 2 * 2 ^ w
pow-double w = omega arith

horner : (a t p r q : ℕ) → q ≡ 2 * p → (2 * a + t) * p + r ≡ a * q + (t * p + r)
horner a t p r q e = rw e (omega arith)

pub number-uint : (w a n : ℕ) → number_from a (uint w n) ≡ a * 2 ^ w + n % 2 ^ w
unfolding uint number_from
number-uint zero a n = omega arith
number-uint (suc w) a n =
    number-uint w (2 * a + bit (odd (n / 2 ^ w))) n ∙ rw (mod-suc w n, bit_odd (n / 2 ^ w))
    (horner a (n / 2 ^ w % 2) (2 ^ w) (n % 2 ^ w) (2 ^ suc w) (pow-double w))

-- a number is encoded by its bits
pub number_of-uint : (w n : ℕ) → n < 2 ^ w → number (uint w n) ≡ n
number_of-uint w n h = number-uint w 0 n ∙ rw (mod-eq_of_lt h) (omega arith)

pub bit-small : (b : Bool) → bit b < 2
bit-small b = grind arith

-- the high part and the rest
pub number-split : (bits : List Bool) (a : ℕ) → number_from a bits ≡ a * 2 ^ length bits + number bits
unfolding number_from
number-split [] a = omega arith
number-split (b ∷ bits) a =
    number-split bits (2 * a + bit b) ∙ step a (bit b) _ _ (2 ^ suc (length bits)) (pow-double (length bits)) _
    (number-split bits (2 * 0 + bit b))
  where
    step : (a t p r q : ℕ) → q ≡ 2 * p → (m : ℕ) → m ≡ (2 * 0 + t) * p + r → (2 * a + t) * p + r ≡ a * q + m
    step a t p r q e m f = rw (e, f) (omega arith)

pub number-fits : (bits : List Bool) → number bits < 2 ^ length bits
unfolding number_from
number-fits [] = omega arith
number-fits (b ∷ bits) = grind (arith, number-split, pow-double, bit-small, number-fits bits)

pub cons2 : {x y : Bool} {xs ys : List Bool} → x ≡ y → xs ≡ ys → (x ∷ xs) ≡ (y ∷ ys)
cons2 e f = cc

-- only the low bits count
pub uint-low : (w a n : ℕ) → uint w (a * 2 ^ w + n) ≡ uint w n
unfolding uint
uint-low zero a n = refl
uint-low (suc w) a n = cons2 (head w a n) (rw (double w a) (uint-low w (2 * a) n))
  where
    double : (w a : ℕ) → a * 2 ^ suc w ≡ 2 * a * 2 ^ w
    double w a = rw (pow-double w) (omega arith)

    odd-even : (a m : ℕ) → odd (m + 2 * a) ≡ odd m
    odd-even a m = let e : (m + 2 * a) % 2 ≡ m % 2 = omega arith in rw e refl

    head : (w a n : ℕ) → odd ((a * 2 ^ suc w + n) / 2 ^ w) ≡ odd (n / 2 ^ w)
    head w a n =
        rw (double w a, add_comm (2 * a * 2 ^ w) n, add-mul-div_right n (2 * a) (pow_pos w)) (odd-even a (n / 2 ^ w))

-- the bits of the number that they encode
pub uint-number : (bits : List Bool) (a : ℕ) → uint (length bits) (number_from a bits) ≡ bits
unfolding uint number_from
uint-number [] a = refl
uint-number (b ∷ bits) a = grind (arith, cons2, odd_bit, number-split, shr_high, number-fits, uint-number bits (2 * a + bit b))

-- ---- the bits of bytes

pub bits_of-append : (xs ys : List ℕ) → bits_of (xs ++ ys) ≡ bits_of xs ++ bits_of ys
unfolding bits_of
bits_of-append [] ys = refl
bits_of-append (x ∷ xs) ys = grind (arith, append_assoc, bits_of-append xs ys)

pub length-bits_of : (xs : List ℕ) → length (bits_of xs) ≡ 8 * length xs
unfolding bits_of
length-bits_of [] = refl
length-bits_of (x ∷ xs) = length-append (uint 8 x) (bits_of xs) ∙ omega (arith, length-uint 8 x, length-bits_of xs)

pub number-take-fits : (l : List Bool) (w : ℕ) → w ≤ length l → number (take w l) < 2 ^ w
number-take-fits l w h = grind (arith, length-take-le, number-fits)

-- a boolean as a number
pub byte-bit : (b : Bool) → bool_byte b ≡ bit b
byte-bit b = cc

-- ---- two's complements

pub pow_mono : (i j : ℕ) → i ≤ j → 2 ^ i ≤ 2 ^ j
pow_mono i j h = pow-le-pow_right (omega arith) h

pub half : (w : ℕ) → 0 < w → 2 ^ w ≡ 2 * 2 ^ (w - 1)
half w h = grind (arith, common_steps)

pub signed_low : (v w : ℕ) → v < 2 ^ (w - 1) → signed w v ≡ pos v
signed_low v w h = grind arith

pub signed_high : (v w : ℕ) → 2 ^ (w - 1) ≤ v → signed w v ≡ negsuc (2 ^ w - (v + 1))
signed_high v w h = grind arith

pub raw_fits : (z : ℤ) (w : ℕ) → 0 < w → FitsInt w z → raw w z < 2 ^ w
raw_fits z w some h = grind (arith, half)

pub raw-signed : (w n : ℕ) → 0 < w → n < 2 ^ w → raw w (signed w n) ≡ n
raw-signed w n some fits = grind (arith, cases_lt, signed_low, signed_high)

pub signed-raw : (w : ℕ) (z : ℤ) → 0 < w → FitsInt w z → signed w (raw w z) ≡ z
signed-raw w z some fits = grind (arith, signed_low, half, signed_high)

pub signed-fits : (w n : ℕ) → 0 < w → n < 2 ^ w → FitsInt w (signed w n)
signed-fits w n some fits = grind (arith, cases_lt, signed_low, signed_high, half)
