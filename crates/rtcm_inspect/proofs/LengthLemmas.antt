-- Lengths that are read back.
use Rattle.rtcm_inspect.proofs.Names.{◌≡◌, ◌<◌, ◌^◌, ◌==◌, ◌++◌, ℕ, ℤ, true, not, List, ◌∷◌, Option, Some, IfSome, arith, refl, cut_first, size_below, size_unsigned, size_whole, list_all, option_map_or, FitsInt, InRange, StationParts, height_text, position_text, coordinate_of, cut, length_below, position_of, metres}

pub coordinate_read : (z : ℤ) → FitsInt 38 z → coordinate_of (metres z) ≡ Some z
coordinate_read z fits = grind (arith, size_unsigned, size_below)

pub metres_whole : (z : ℤ) → FitsInt 38 z → list_all (λ x. not (x == 0x2C)) (metres z) ≡ true
metres_whole z fits = grind (arith, size_whole)

position_by_parts : (text : List ℕ) {rest a b c : List ℕ} {x y z : ℤ} → cut 0x2C text ≡ Some (a, rest) → cut 0x2C rest ≡ Some (b, c) → coordinate_of a ≡ Some x → coordinate_of b ≡ Some y
    → coordinate_of c ≡ Some z → position_of text ≡ Some (x, y, z)
position_by_parts text first second p q r = rw (first, second, p, q, r) refl

pub position_read : (s : StationParts) → InRange s → position_of (position_text s) ≡ Some (s.x, s.y, s.z)
position_read s are =
    position_by_parts (position_text s)
    (cut_first 0x2C (metres s.x) (metres s.y ++ 0x2C ∷ metres s.z) (metres_whole s.x are.x)) (cut_first 0x2C (metres s.y) (metres s.z) (metres_whole s.y are.y))
    (coordinate_read s.x are.x) (coordinate_read s.y are.y) (coordinate_read s.z are.z)

pub height_read : (h : Option ℕ) → IfSome h (λ n. n < 2 ^ 16) → length_below (2 ^ 16) (height_text h) ≡ Some (option_map_or (λ n. n) h 0)
height_read h small = grind (arith, size_below)
