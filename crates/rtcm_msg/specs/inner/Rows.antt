-- The data of satellites or cells at their position in the bits: one field of all, then the next field of all.
use Rattle.std.specs.Prelude.{ℕ, ◌+◌, ◌-◌, ◌*◌, ◌%◌, ◌^◌, nat_lt, if◌then◌else◌, Bool, List, [], ◌∷◌, Result, Ok, Err}
use Rattle.std.specs.Prelude.{replicate}
use Rattle.rtcm_bits.specs.Cursors.{Cursor}
use Rattle.rtcm_msg.specs.declared.fault.MsgFault.{MsgFault}
use Rattle.rtcm_msg.specs.declared.fault.MsgFault.TheVariants.{Short}
use Rattle.rtcm_msg.specs.Fields.{cursor_at, field_at}
use Rattle.rtcm_msg.specs.Columns.{columns_at}

-- The numbers that were read; none after a fault.
abbrev pub numbers_in : Result (List ℕ × Cursor) MsgFault → List ℕ
numbers_in (Ok x) = x.0
numbers_in (Err e) = []

-- The data of `count` satellites or cells that begin at a bit, the fields of each packed in one number.
abbrev pub rows_at : List ℕ → ℕ → List Bool → ℕ → List ℕ
rows_at widths count bits place = numbers_in (columns_at widths (replicate count 0) (cursor_at bits place))

-- The bit after the data of `count` satellites or cells in len bits; or `Short` with the first field that does not end
-- within them.
unfoldable pub end_of_rows : List ℕ → ℕ → ℕ → ℕ → Result ℕ MsgFault
end_of_rows [] count len place = Ok place
end_of_rows (w ∷ ws) count len place =
    if nat_lt len (place + count * w) then Err (Short (len - (len - place) % w))
    else end_of_rows ws count len (place + count * w)

-- The fields of item i, each appended to the bits read of it before.
unfoldable pub row_at : List ℕ → ℕ → List Bool → ℕ → ℕ → ℕ → ℕ
row_at [] count bits place i n = n
row_at (w ∷ ws) count bits place i n =
    row_at ws count bits (place + count * w) i (n * 2 ^ w + field_at bits (place + i * w) w)
