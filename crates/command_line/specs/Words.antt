-- The words of a command line.
use Rattle.std.specs.Prelude.{ℕ, ◌+◌, ◌&&◌, ◌==◌, get_or, length, nat_le, nat_lt, Bool, List, [], ◌∷◌, ◌++◌, codes, if◌then◌else◌}
use Rattle.std.specs.Str.{bytes_eq}
use Rattle.clap.specs.Walk.{Text}

-- the option whose value may begin with a minus sign
abbrev pub position : Text
position = codes "--position"

-- it begins with a minus sign and a digit
abbrev pub is_negative : Text → Bool
is_negative w = nat_lt 1 (length w) && (get_or w 0 0 == 0x2D) && nat_le 0x30 (get_or w 1 0) && nat_le (get_or w 1 0) 0x39

-- the word at an index is the option, and such a value follows
abbrev pub has_value_at : List Text → ℕ → Bool
has_value_at words i =
    nat_lt (i + 1) (length words) && bytes_eq (get_or words i []) position && is_negative (get_or words (i + 1) [])

-- the option and such a value are one word, joined by a `=`
abbrev pub joined : List Text → List Text
joined [] = []
joined (w ∷ []) = w ∷ []
joined (w ∷ v ∷ ws) =
    if bytes_eq w position && is_negative v then (w ++ 0x3D ∷ v) ∷ joined ws else w ∷ joined (v ∷ ws)
