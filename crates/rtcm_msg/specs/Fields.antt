-- Fields of a message: numbers of given widths, one after the other.
use Rattle.std.specs.Prelude.{◌≡◌, ℕ, ◌+◌, nat_lt, if◌then◌else◌, Bool, List, [], ◌∷◌, ◌++◌, length, take, drop, Option}
use Rattle.std.specs.Prelude.{Some, None, Result, Ok, Err}
use Rattle.rtcm_bits.specs.Bits.{uint, number}
use Rattle.rtcm_bits.specs.Cursors.{Cursor, advanced, unsigned_at}
use Rattle.rtcm_msg.specs.Layout.{Table, Contents, width, content}
use Rattle.rtcm_msg.specs.declared.fault.MsgFault.{MsgFault}
use Rattle.rtcm_msg.specs.declared.fault.MsgFault.TheVariants.{Short}

-- ---- from a bit on

abbrev pub cursor_at : List Bool → ℕ → Cursor
cursor_at bits place = record { place = place; rest = drop place bits }

-- The number of the w bits from a bit on.
abbrev pub field_at : List Bool → ℕ → ℕ → ℕ
field_at bits place w = number (take w (drop place bits))

-- ---- encoding

-- The bits of fields in order. A field is its width and its number.
unfoldable pub field_bits : List (ℕ × ℕ) → List Bool
field_bits [] = []
field_bits (f ∷ fs) = uint f.0 f.1 ++ field_bits fs

-- The sum of the widths of the fields.
abbrev pub fields_width : List (ℕ × ℕ) → ℕ
fields_width [] = 0
fields_width (f ∷ fs) = f.0 + fields_width fs

-- The first bit of the first field that does not end within len bits.
unfoldable pub first_past : ℕ → ℕ → List ℕ → Option ℕ
first_past len place [] = None
first_past len place (w ∷ ws) = if nat_lt len (place + w) then Some place else first_past len (place + w) ws

-- ---- reading from left to right, with the first fault

infixl 10 ◌>>=◌
abbrev pub ◌>>=◌ : {A B E : Type 0} → Result A E → (A → Result B E) → Result B E
(Ok x) >>= f = f x
(Err e) >>= f = Err e

-- The result of a function, with its value seen by `view`, is the result of reading.
abbrev pub GivesViewed : {X Y : Type 0} → (X → Y) → Result X MsgFault → Result Y MsgFault → Type 0
GivesViewed view (Ok x) read = read ≡ Ok (view x)
GivesViewed view (Err e) read = read ≡ Err e

-- Reads one field: the number, and the cursor after it.
unfoldable pub number_at : ℕ → Cursor → Result (ℕ × Cursor) MsgFault
number_at w c = if nat_lt (length c.rest) w then Err (Short c.place) else Ok (unsigned_at w c, advanced c w)

-- Reads the fields of a table one after the other, then what follows.
abbrev pub reading : {B : Type 0} (t : Table) → Cursor → (Contents t × Cursor → Result B MsgFault) → Result B MsgFault
reading [] c next = next (tt, c)
reading (f ∷ fs) c next =
    number_at (width f.1) c >>= λ n. reading fs n.1 (λ others. next ((content f.1 n.0, others.0), others.1))
