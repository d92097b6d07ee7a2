-- The lines of a header, RINEX 3.05, table A2: content in columns 1 to 60, the label from column 61 on.
use Rattle.std.specs.Prelude.{ℕ, ◌+◌, ◌*◌, ◌==◌, if◌then◌else◌, List, [], ◌∷◌}
use Rattle.std.specs.Prelude.{Option, is_some, length, not, take, drop, flat_map, get_or, Bool, true, false}
use Rattle.gnss_system.specs.Systems.{systems, index_of}
use Rattle.gnss_system.specs.declared.system.System.{System}
use Rattle.rinex_file.specs.declared.header.rows.HeaderRow.{HeaderRow}
use Rattle.rinex_file.specs.declared.header.rows.HeaderRow.TheVariants.{Version, Texts, Position, Delta, Types}
use Rattle.rinex_file.specs.declared.header.rows.HeaderRow.TheVariants.{StrengthUnit, Interval, First, Shift, Slots, Biases, End}
use Rattle.rinex_file.specs.Texts.{HeaderLists, place_of, has_text, is_required}
use Rattle.rinex_file.specs.Header.{Shown, row_lines, all_rows}

-- ---- the rows, each of one line or none

-- whether the header has a value for the line of an optional row
abbrev pub is_given : HeaderLists → Option ℕ → HeaderRow → Bool
is_given x interval (Texts row) = has_text x row
is_given x interval Interval = is_some interval
is_given x interval other = false

-- a row with a line only if the header has a value for it
abbrev pub is_optional : HeaderRow → Bool
is_optional (Texts row) = not (is_required row)
is_optional Interval = true
is_optional other = false

abbrev pub row_count : ℕ
row_count = length all_rows

-- ---- line by line

-- the row at an index
abbrev pub row_at : ℕ → HeaderRow
row_at place = get_or all_rows place End

-- the number of rows of a system's types
abbrev pub most_type_rows : ℕ
most_type_rows = 6

-- the index of the first row that passes a test
abbrev pub index_where : (HeaderRow → Bool) → List HeaderRow → ℕ
index_where test [] = 0
index_where test (row ∷ rows) = if test row then 0 else 1 + index_where test rows

-- the same row, but for those of a system and of slots
abbrev pub is_alike : HeaderRow → HeaderRow → Bool
is_alike Version Version = true
is_alike (Texts a) (Texts b) = place_of a == place_of b
is_alike Position Position = true
is_alike Delta Delta = true
is_alike StrengthUnit StrengthUnit = true
is_alike Interval Interval = true
is_alike First First = true
is_alike Biases Biases = true
is_alike End End = true
is_alike other row = false

-- the index of the first row of a system's types: after the height's, in the order of the systems
abbrev pub first_types : System → ℕ
first_types system = index_where (is_alike Delta) all_rows + 1 + most_type_rows * index_of system

-- the index of the first row of slots: after the phase shifts
abbrev pub first_slots : ℕ
first_slots = index_where (is_alike First) all_rows + 1 + length systems

-- the index of a row
abbrev pub row_place : HeaderRow → ℕ
row_place (Types system row) = first_types system + row
row_place (Shift system) = index_where (is_alike First) all_rows + 1 + index_of system
row_place (Slots row) = first_slots + row
row_place other = index_where (is_alike other) all_rows

-- the lines of the rows before an index
abbrev pub lines_before : Shown → ℕ → List (List ℕ)
lines_before h place = flat_map (row_lines h) (take place all_rows)

-- the lines of the rows from an index on
abbrev pub lines_after : Shown → ℕ → List (List ℕ)
lines_after h place = flat_map (row_lines h) (drop place all_rows)
