-- The layout of a message: its data fields in order, as in the tables of RTCM 10403.3.
use Rattle.std.specs.Prelude.{ℕ, ℤ, ◌==◌, Bool, List, [], ◌∷◌}
use Rattle.rtcm_bits.specs.Bits.{bit, raw, signed}

-- A field: an unsigned or a two's complement number of the given width, one bit that is 1 for true, or reserved bits.
pub data FieldKind : Type 0 where
  Uint : ℕ → FieldKind
  Int : ℕ → FieldKind
  Flag : FieldKind
  Reserved : ℕ → FieldKind

-- A table: for each field its number in the standard (DF..) and its kind.
abbrev pub Table : Type 0
Table = List (ℕ × FieldKind)

abbrev pub width : FieldKind → ℕ
width (Uint w) = w
width (Int w) = w
width Flag = 1
width (Reserved w) = w

abbrev pub widths : Table → List ℕ
widths [] = []
widths (f ∷ fs) = width f.1 ∷ widths fs

-- The content of a field of a kind.
abbrev pub Content : FieldKind → Type 0
Content (Uint w) = ℕ
Content (Int w) = ℤ
Content Flag = Bool
Content (Reserved w) = ℕ

-- The contents of the fields of a table, in order.
abbrev pub Contents : Table → Type 0
Contents [] = Unit {0}
Contents (f ∷ fs) = Content f.1 × Contents fs

-- The content of one field, and the contents after it.
infixr 5 ◌▸◌
abbrev pub ◌▸◌ : {A B : Type 0} → A → B → A × B
a ▸ b = (a, b)

-- The number that encodes a content, and back.
abbrev pub number_of : (k : FieldKind) → Content k → ℕ
number_of (Uint w) n = n
number_of (Int w) z = raw w z
number_of Flag b = bit b
number_of (Reserved w) n = n

abbrev pub content : (k : FieldKind) → ℕ → Content k
content (Uint w) n = n
content (Int w) n = signed w n
content Flag n = n == 1
content (Reserved w) n = n

-- The fields with their contents, each as its width and its number.
abbrev pub fields_of : (t : Table) → Contents t → List (ℕ × ℕ)
fields_of [] cs = []
fields_of (f ∷ fs) cs = (width f.1, number_of f.1 cs.0) ∷ fields_of fs cs.1

-- Each message begins with its message number.
abbrev pub number_table : Table
number_table =
    (2, Uint 12)  -- message number
    ∷ []
