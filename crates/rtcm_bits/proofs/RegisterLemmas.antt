-- The register as a number.
use Rattle.rtcm_bits.proofs.Names.{◌≡◌, ℕ, ◌^◌, ◌<◌, List, [], ◌∷◌, ◌++◌, refl, sym, ap, ◌∙◌, uint, number, number_from, bits_of, crc, bits_remainder, after_bits, ProcessesBits, uint-number, number-fits, bits_of-append, number_of-uint, append-nil, arith}
use Rattle.rtcm_bits.proofs.CheckLemmas.{after_bits-append, remainder-append, length-bits_remainder}

-- the bits of a CRC are the remainder
pub check_is : (m : List ℕ) → uint 24 (crc m) ≡ bits_remainder (bits_of m)
unfolding crc
check_is m =
    let r = bits_remainder (bits_of m) in
    ap (λ n. uint n (number r)) (sym (length-bits_remainder (bits_of m))) ∙ uint-number r 0

pub check_below : (m : List ℕ) → crc m < 2 ^ 24
unfolding crc
check_below m = grind (arith, number-fits, length-bits_remainder)

-- several more bytes
pub check_append : (m bytes : List ℕ) (x y : ℕ) → x ≡ crc m → ProcessesBits (bits_of bytes) x y → y ≡ crc (m ++ bytes)
check_append m bytes x y e p =
    let g : uint 24 x ≡ bits_remainder (bits_of m) = ap (uint 24) e ∙ check_is m in
    let k : bits_of (m ++ bytes) ≡ bits_of m ++ bits_of bytes = bits_of-append m bytes in
    let s : uint 24 y ≡ uint 24 (crc (m ++ bytes)) = p.steps ∙ ap (λ r. after_bits r (bits_of bytes)) g ∙ sym (remainder-append (bits_of m) (bits_of bytes)) ∙ sym (ap bits_remainder k) ∙ sym (check_is (m ++ bytes)) in
    sym (number_of-uint 24 y p.bound) ∙ ap number s ∙ number_of-uint 24 (crc (m ++ bytes)) (check_below (m ++ bytes))

-- one byte more
pub check_push : (m : List ℕ) (x y b : ℕ) → x ≡ crc m → ProcessesBits (uint 8 b) x y → y ≡ crc (m ++ b ∷ [])
unfolding bits_of
check_push m x y b e p = check_append m (b ∷ []) x y e (rw (append-nil (uint 8 b)) p)

pub check_nil : 0 ≡ crc []
unfolding crc bits_remainder Rattle.rtcm_bits.specs.Crc.remainder number_from bits_of
check_nil = refl

pub no_steps : (x : ℕ) → x < 2 ^ 24 → ProcessesBits (bits_of []) x x
unfolding bits_of after_bits
no_steps x h = record { bound = h; steps = refl }

-- more bytes, one after the other
pub steps_more : {all : List ℕ} (bytes more : List ℕ) (r x y : ℕ) → all ≡ bytes ++ more → ProcessesBits (bits_of bytes) r x → ProcessesBits (bits_of more) x y → ProcessesBits (bits_of all) r y
steps_more bytes more r x y m p q = grind (arith, after_bits-append, bits_of-append)

pub steps_push : {more : List ℕ} (bytes : List ℕ) (r x y b : ℕ) → more ≡ bytes ++ b ∷ [] → ProcessesBits (bits_of bytes) r x → ProcessesBits (uint 8 b) x y → ProcessesBits (bits_of more) r y
unfolding bits_of
steps_push bytes r x y b m p q = steps_more bytes (b ∷ []) r x y m p (rw (append-nil (uint 8 b)) q)
