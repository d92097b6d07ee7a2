-- A number that is read a part of a byte at a time.
use Rattle.rtcm_bits.proofs.Names.{◌≡◌, ℕ, zero, suc, ◌+◌, ◌-◌, ◌*◌, ◌/◌, ◌%◌, ◌^◌, ◌<◌, ◌≤◌, Bool, List, [], ◌∷◌, ◌++◌, length, take, drop, get_or, refl, sym, ap, ◌∙◌, arith, take-add, length-drop, length-take-le, drop-drop, take-append-le, drop-append-le, one_shl, shr-shr, pow-le-pow_right, mod-eq_of_lt, odd, uint, number, number_from, bits_of, length-uint, length-bits_of, number-uint, number-split, number-take-fits}
use Rattle.rtcm_bits.proofs.BitLemmas.{number-append}

-- the bits after the first r
drop-uint : (r w x : ℕ) → drop r (uint (r + w) x) ≡ uint w x
unfolding uint
drop-uint zero w x = ap (λ k. uint k x) (let e : 0 + w ≡ w = omega arith in e)
drop-uint (suc r) w x = let e : suc r + w ≡ suc (r + w) = omega arith in rw e (drop-uint r w x)

-- the bits before the last k
take-uint : (n k x : ℕ) → take n (uint (n + k) x) ≡ uint n (x / 2 ^ k)
unfolding uint
take-uint zero k x = refl
take-uint (suc n) k x =
    let e : suc n + k ≡ suc (n + k) = omega arith in
    let f : x / 2 ^ (k + n) ≡ x / 2 ^ k / 2 ^ n = sym (shr-shr x k n) in
    let g : k + n ≡ n + k = omega arith in
    rw (e, take-uint n k x) (ap (λ t. odd t ∷ uint n (x / 2 ^ k)) (ap (λ t. x / 2 ^ t) (sym g) ∙ f))

-- n bits of a number, after r others and before k others
pub part-uint : (r n k x : ℕ) → number (take n (drop r (uint (r + (n + k)) x))) ≡ x / 2 ^ k % 2 ^ n
part-uint r n k x = rw (drop-uint r (n + k) x, take-uint n k x) (number-uint n 0 (x / 2 ^ k) ∙ omega arith)

-- the same of a byte, as the code computes it
pub part_of_byte : (byte skip n : ℕ) → skip + n ≤ 8 → byte / 2 ^ (8 - skip - n) % ((1 * 2 ^ n) % 2 ^ 64) ≡ number (take n (drop skip (uint 8 byte)))
part_of_byte byte skip n h =
    let e : skip + (n + (8 - skip - n)) ≡ 8 = omega arith in
    let p = part-uint skip n (8 - skip - n) byte in
    rw (one_shl n 64 (omega arith)) (sym (rw e at p))

-- the bits of one byte among those of all
pub part_of_bytes : (xs : List ℕ) (q r n : ℕ) → 8 * q + r + n ≤ 8 * length xs → r + n ≤ 8 → take n (drop (8 * q + r) (bits_of xs)) ≡ take n (drop r (uint 8 (get_or xs q 0)))
unfolding bits_of uint
part_of_bytes [] q r zero h k = refl
part_of_bytes [] q r (suc n) h k = absurd (omega arith)
part_of_bytes (x ∷ xs) zero r n h k =
    let l : length (uint 8 x) ≡ 8 = length-uint 8 x in
    let d : length (drop r (uint 8 x)) ≡ 8 - r = length-drop r (uint 8 x) ∙ ap (λ m. m - r) l in
    let z : 8 * 0 + r ≡ r = omega arith in
    ap (λ m. take n (drop m (uint 8 x ++ bits_of xs))) z ∙ ap (take n) (drop-append-le r (uint 8 x) (bits_of xs) (omega arith)) ∙ take-append-le n (drop r (uint 8 x)) (bits_of xs) (omega arith)
part_of_bytes (x ∷ xs) (suc q) r n h k =
    let e : 8 * suc q + r ≡ suc (suc (suc (suc (suc (suc (suc (suc (8 * q + r)))))))) = omega arith in
    rw e (part_of_bytes xs q r n (omega arith) k)

-- n more bits
pub number-more : (l : List Bool) (place i n : ℕ) → place + i + n ≤ length l
    → number (take (i + n) (drop place l)) ≡ number (take i (drop place l)) * 2 ^ n + number (take n (drop (place + i) l))
number-more l place i n h = grind (arith, length-drop, length-take-le, number-split, take-add, drop-drop, number-append)

-- a number of up to 64 bits fits
short_fits : (l : List Bool) (i : ℕ) → i ≤ 64 → i ≤ length l → number (take i l) < 2 ^ 64
short_fits l i h k = grind (arith, pow-le-pow_right, number-take-fits)

pub record Next (xs : List ℕ) (place at n before part : ℕ) : Type 0 where
  pub value : before * 2 ^ n % 2 ^ 64 + part ≡ number (take (at + n - place) (drop place (bits_of xs)))
  pub fits : before * 2 ^ n % 2 ^ 64 + part < 2 ^ 64

-- the part of one byte after the bits before it, as the code computes it in 64 bits
pub next_part : {place at value part : ℕ} (xs : List ℕ) (n : ℕ) → place ≤ at → at + n ≤ 8 * length xs → at % 8 + n ≤ 8 → at + n ≤ place + 64
    → value ≡ number (take (at - place) (drop place (bits_of xs))) → part ≡ number (take n (drop (at % 8) (uint 8 (get_or xs (at / 8) 0)))) → Next xs place at n value part
next_part {place} {at} {value} {part} xs n h k r w e f =
    let i : place + (at - place) ≡ at = omega arith in
    let j : at + n - place ≡ at - place + n = omega arith in
    let split : 8 * (at / 8) + at % 8 ≡ at = omega arith in
    let b : length (bits_of xs) ≡ 8 * length xs = length-bits_of xs in
    let p : take n (drop at (bits_of xs)) ≡ take n (drop (at % 8) (uint 8 (get_or xs (at / 8) 0))) =
    ap (λ m. take n (drop m (bits_of xs))) (sym split) ∙ part_of_bytes xs (at / 8) (at % 8) n (omega arith) r in
    let more = number-more (bits_of xs) place (at - place) n (omega arith) in
    let v : value * 2 ^ n + part ≡ number (take (at + n - place) (drop place (bits_of xs))) = rw (e, f, j, more, i, p) refl in
    let l : length (drop place (bits_of xs)) ≡ 8 * length xs - place = length-drop place (bits_of xs) ∙ ap (λ m. m - place) (length-bits_of xs) in
    let s : number (take (at + n - place) (drop place (bits_of xs))) < 2 ^ 64 = short_fits (drop place (bits_of xs)) (at + n - place) (omega arith) (omega arith) in
    let low : value * 2 ^ n < 2 ^ 64 = below (value * 2 ^ n) part _ v s in
    let m : value * 2 ^ n % 2 ^ 64 ≡ value * 2 ^ n = mod-eq_of_lt low in
    record { value = ap (λ t. t + part) m ∙ v; fits = rw (m, v) s }
  where
    below : (a b t : ℕ) → a + b ≡ t → t < 2 ^ 64 → a < 2 ^ 64
    below a b t e h = omega arith

-- before the first part
pub nothing_read : (place : ℕ) (l : List Bool) → 0 ≡ number (take (place - place) l)
unfolding number_from
nothing_read place l = let z : place - place ≡ 0 = omega arith in rw z refl
