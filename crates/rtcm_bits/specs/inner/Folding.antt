-- The bytes of a long message, folded: the CRC stays the same if each of the first bytes is taken away and added to
-- those 69, 71, 79, 85 and 96 places further on, since the generator divides the polynomial
-- x^768 + x^216 + x^200 + x^136 + x^88 + 1.
use Rattle.std.specs.Prelude.{◌≡◌, ℕ, List, [], ◌∷◌, drop, length, bit_xor}

-- the sum of bytes, where xs is added to the first of ys
unfoldable pub add_bytes : List ℕ → List ℕ → List ℕ
add_bytes [] ys = ys
add_bytes (x ∷ xs) [] = []
add_bytes (x ∷ xs) (y ∷ ys) = bit_xor x y ∷ add_bytes xs ys

-- the bytes m, after the last 96 bytes w before them were added to those further on
unfoldable pub fold_into : List ℕ → List ℕ → List ℕ
fold_into w m = add_bytes (drop 27 w) (add_bytes (drop 25 w) (add_bytes (drop 17 w) (add_bytes (drop 11 w) (add_bytes w m))))

-- six parts of sixteen bytes
pub record Sixes (a b c d e f : List ℕ) : Type 0 where
  pub first : length a ≡ 16
  pub second : length b ≡ 16
  pub third : length c ≡ 16
  pub fourth : length d ≡ 16
  pub fifth : length e ≡ 16
  pub sixth : length f ≡ 16
