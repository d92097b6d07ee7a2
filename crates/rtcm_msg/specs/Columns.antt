-- Reads the data of satellites or cells field by field: one field of all, then the next field of all.
use Rattle.std.specs.Prelude.{ℕ, ◌+◌, ◌*◌, ◌^◌, ◌<◌, List, [], ◌∷◌, Result, Ok, slice_index}
use Rattle.rtcm_bits.specs.Cursors.{Cursor}
use Rattle.rtcm_msg.specs.declared.fault.MsgFault.{MsgFault}
use Rattle.rtcm_msg.specs.Fields.{number_at, ◌>>=◌}

-- Reads one field of each, and appends its bits to the bits read of each before.
unfoldable pub column_at : ℕ → List ℕ → Cursor → Result (List ℕ × Cursor) MsgFault
column_at w [] c = Ok ([], c)
column_at w (p ∷ ps) c = do
  here ← number_at w c
  others ← column_at w ps here.1
  Ok ((p * 2 ^ w + here.0) ∷ others.0, others.1)

unfoldable pub columns_at : List ℕ → List ℕ → Cursor → Result (List ℕ × Cursor) MsgFault
columns_at [] ps c = Ok (ps, c)
columns_at (w ∷ ws) ps c = do
  next ← column_at w ps c
  columns_at ws next.0 next.1

-- Each number is less than 2 ^ bits.
abbrev pub EachBelow : ℕ → List ℕ → Type 0
EachBelow bits ps = (k : ℕ) → slice_index ps k < 2 ^ bits
