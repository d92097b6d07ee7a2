-- The CRC of a list of bytes: the remainder of a division of polynomials over the field of two elements. A polynomial
-- is the list of its coefficients, that of the greatest power first.
use Rattle.std.specs.Prelude.{ℕ, zero, suc, ◌++◌, Bool, true, false, not, List, [], ◌∷◌, length, drop, replicate}
use Rattle.std.specs.Prelude.{if◌then◌else◌}
use Rattle.rtcm_bits.specs.Bits.{uint, number, bits_of}

-- the sum of two coefficients
abbrev pub plus : Bool → Bool → Bool
plus true b = not b
plus false b = b

-- g is added to the first coefficients of p
unfoldable pub add_front : List Bool → List Bool → List Bool
add_front [] p = p
add_front (a ∷ g) [] = []
add_front (a ∷ g) (c ∷ p) = plus a c ∷ add_front g p

-- x^24 + x^23 + x^18 + x^17 + x^14 + x^11 + x^10 + x^7 + x^6 + x^5 + x^4 + x^3 + x + 1
unfoldable pub generator : List Bool
generator = uint 25 0x1864CFB

-- long division by the generator, while the quotient has n more coefficients: if the first coefficient of the dividend
-- is 1, the generator is subtracted; then that coefficient is dropped
unfoldable pub remainder : ℕ → List Bool → List Bool
remainder zero p = p
remainder (suc n) [] = []
remainder (suc n) (c ∷ p) = remainder n (if c then add_front (drop 1 generator) p else p)

-- the remainder of the polynomial of these bits times x^24
unfoldable pub bits_remainder : List Bool → List Bool
bits_remainder m = remainder (length m) (m ++ replicate 24 false)

-- the CRC of these bytes, a number of 24 bits
unfoldable pub crc : List ℕ → ℕ
crc m = number (bits_remainder (bits_of m))
