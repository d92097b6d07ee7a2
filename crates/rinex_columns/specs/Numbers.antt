-- Numbers of fixed width, as in the columns of a line.
use Rattle.std.specs.Prelude.{◌≡◌, ℕ, ℤ, ◌+◌, ◌-◌, ◌/◌, ◌%◌, ◌^◌, ◌≤◌, List, ◌∷◌, ◌++◌, length, flat_map, replicate}
use Rattle.std.specs.Prelude.{decimal, unsigned_abs}
use Rattle.std.specs.Int.{is_negative}
use Rattle.std.specs.Fmt.{sign_text}

-- fields, one after the other; lines, one after the other
abbrev pub joined : List (List ℕ) → List ℕ
joined parts = flat_map (λ part. part) parts

-- this text, of at most this number of bytes, was appended
pub record Adds (old new added : List ℕ) (most : ℕ) : Type 0 where
  pub text : new ≡ old ++ added
  pub short : length new ≤ length old + most

-- a text left-aligned in its columns, with blanks after
abbrev pub left : ℕ → List ℕ → List ℕ
left width text = text ++ replicate (width - length text) 32

-- a text right-aligned in its columns, with blanks before
abbrev pub right : ℕ → List ℕ → List ℕ
right width text = replicate (width - length text) 32 ++ text

-- a number with leading zeros, up to `places` digits
abbrev pub padded : ℕ → ℕ → List ℕ
padded places n = replicate (places - length (decimal n)) 48 ++ decimal n

-- z in units of 10 to the minus `places`: a minus if negative, the whole part, a point and `places` digits
abbrev pub fixed : ℕ → ℤ → List ℕ
fixed places z =
    sign_text (is_negative z)
    ++ decimal (unsigned_abs z / 10 ^ places) ++ (46 ∷ padded places (unsigned_abs z % 10 ^ places))
