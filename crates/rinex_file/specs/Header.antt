-- The lines of a header, RINEX 3.05, table A2: content in columns 1 to 60, the label from column 61 on.
use Rattle.std.specs.Prelude.{ℕ, zero, suc, ℤ, pos, ◌+◌, ◌*◌, ◌/◌, ◌==◌, if◌then◌else◌, List, [], ◌∷◌, ◌++◌}
use Rattle.std.specs.Prelude.{Option, is_some, unwrap_or, length, take, drop, map, flat_map, replicate, decimal, codes, Bool, true, nat_lt}
use Rattle.std.specs.List.{filter}
use Rattle.gnss_system.specs.Satellites.{letter}
use Rattle.gnss_system.specs.Systems.{systems}
use Rattle.gnss_system.specs.Signals.{code_of}
use Rattle.gnss_system.specs.declared.system.System.{System}
use Rattle.gnss_system.specs.declared.system.System.TheVariants.{Glonass}
use Rattle.gnss_obs.specs.declared.cell.StationValues.{StationValues}
use Rattle.gnss_obs.specs.declared.civil.Civil.{Civil}
use Rattle.gnss_obs.specs.Dates.{civil_of}
use Rattle.gnss_obs.specs.Values.{PlanValue, planned_of}
use Rattle.rinex_file.specs.declared.header.fields.HeaderField.{HeaderField}
use Rattle.rinex_file.specs.declared.header.fields.HeaderField.TheVariants.{RunBy, Comment, Marker, MarkerNumber, MarkerType}
use Rattle.rinex_file.specs.declared.header.fields.HeaderField.TheVariants.{Observer, RecNumber, AntNumber}
use Rattle.rinex_file.specs.declared.header.rows.HeaderRow.{HeaderRow}
use Rattle.rinex_file.specs.declared.header.rows.HeaderRow.TheVariants.{Version, Texts, Position, Delta, Types}
use Rattle.rinex_file.specs.declared.header.rows.HeaderRow.TheVariants.{StrengthUnit, Interval, First, Shift, Slots, Biases, End}
use Rattle.rinex_columns.specs.HeaderLine.{has_label, header_line}
use Rattle.rinex_columns.specs.Numbers.{joined, left, right, fixed}
use Rattle.rinex_file.specs.Slots.{SlotNumber, slots_of, slots_columns, slot_rows}
use Rattle.rinex_file.specs.Limits.{types_in_line}
use Rattle.rinex_file.specs.Texts.{HeaderLists, width_of, text_of, fields_of, front_of, label_of, has_row}

-- the contents of a header
pub record Shown : Type 0 where
  pub texts : HeaderLists
  pub interval : Option ℕ
  pub plan : PlanValue
  pub values : StationValues
  pub first : ℕ

-- ---- a line: its content, and the label of its row

abbrev pub types_label : List ℕ
types_label = codes "SYS / # / OBS TYPES"

abbrev pub row_label : HeaderRow → List ℕ
row_label Version = codes "RINEX VERSION / TYPE"
row_label (Texts row) = label_of row
row_label Position = codes "APPROX POSITION XYZ"
row_label Delta = codes "ANTENNA: DELTA H/E/N"
row_label (Types system row) = types_label
row_label StrengthUnit = codes "SIGNAL STRENGTH UNIT"
row_label Interval = codes "INTERVAL"
row_label First = codes "TIME OF FIRST OBS"
row_label (Shift system) = codes "SYS / PHASE SHIFT"
row_label (Slots row) = codes "GLONASS SLOT / FRQ #"
row_label Biases = codes "GLONASS COD/PHS/BIS"
row_label End = codes "END OF HEADER"

-- the line of a row with this content
abbrev pub line_with : HeaderRow → List ℕ → List ℕ
line_with row content = header_line content (row_label row)

-- three lengths, given in 0.0001 m and written as F14.4
abbrev pub lengths : ℤ → ℤ → ℤ → List ℕ
lengths a b c = joined (right 14 (fixed 4 a) ∷ right 14 (fixed 4 b) ∷ right 14 (fixed 4 c) ∷ [])

-- ---- version and texts

-- some signal of a system is planned
abbrev pub is_planned : PlanValue → System → Bool
is_planned p system = nat_lt 0 (length (planned_of system p))

-- the letter of these systems: that of one, or M for several
abbrev pub letter_of : List System → ℕ
letter_of [] = 0
letter_of (s ∷ []) = letter s
letter_of (s ∷ t ∷ ss) = 77

-- the letter of the systems with a flag
abbrev pub flagged_letter : (System → Bool) → ℕ
flagged_letter flags = letter_of (filter flags systems)

-- the letter of the systems that are planned
abbrev pub systems_letter : PlanValue → ℕ
systems_letter p = flagged_letter (is_planned p)

-- version 3.05, the file's type, and the letter of its systems
abbrev pub version_content : ℕ → List ℕ
version_content letter = joined
    (right 9 (fixed 2 (pos 305)) ∷ replicate 11 32 ∷ left 20 (codes "OBSERVATION DATA") ∷ (letter ∷ []) ∷ [])

-- the text of a field, in its columns
abbrev pub text_columns : HeaderLists → HeaderField → List ℕ
text_columns x field = left (width_of field) (text_of x field)

abbrev pub texts_content : HeaderLists → HeaderField → List ℕ
texts_content x row = front_of row ++ flat_map (text_columns x) (fields_of row)

abbrev pub texts_line : HeaderLists → HeaderField → List ℕ
texts_line x row = line_with (Texts row) (texts_content x row)

-- ---- station

abbrev pub position_content : StationValues → List ℕ
position_content v = lengths v.x v.y v.z

abbrev pub position_line : StationValues → List ℕ
position_line v = line_with Position (position_content v)

-- the height of the antenna; its east and north offsets from the marker are zero
abbrev pub height_content : ℕ → List ℕ
height_content height = lengths (pos height) (pos 0) (pos 0)

abbrev pub height_line : ℕ → List ℕ
height_line height = line_with Delta (height_content height)

-- ---- signals

-- a type of a signal with this code: pseudorange, phase, Doppler or strength
abbrev pub type_of : ℕ → List ℕ → List ℕ
type_of kind code = (if kind == 0 then 67 else (if kind == 1 then 76 else (if kind == 2 then 68 else 83))) ∷ code

-- the types of the signals with these codes
abbrev pub types_of : List (List ℕ) → List (List ℕ)
types_of signals = flat_map (λ code. type_of 0 code ∷ type_of 1 code ∷ type_of 2 code ∷ type_of 3 code ∷ []) signals

-- the columns before the types of a line: on the first, the system's letter and the number of types
abbrev pub type_front : ℕ → ℕ → ℕ → List ℕ
type_front byte types zero = byte ∷ 32 ∷ 32 ∷ right 3 (decimal types)
type_front byte types (suc line) = replicate 6 32

-- the types in a line, each after a blank: 13 in a full line, and the rest in the last
abbrev pub type_columns : List (List ℕ) → ℕ → List ℕ
type_columns types line = flat_map (λ t. 32 ∷ t) (take types_in_line (drop (types_in_line * line) types))

-- the number of lines that the types of a number of signals need; the last may not be full
abbrev pub type_rows : ℕ → ℕ
type_rows signals = (4 * signals + 12) / types_in_line

abbrev pub codes_of : System → List ℕ → List (List ℕ)
codes_of system signals = map (λ index. code_of (record { system = system; index = index })) signals

-- the content of a line of types of a system with `count` signals, of which these are the first
abbrev pub types_content : System → ℕ → List ℕ → ℕ → List ℕ
types_content system count signals row =
    type_front (letter system) (4 * count) row ++ type_columns (types_of (codes_of system signals)) row

-- its line
abbrev pub types_with : System → ℕ → List ℕ → ℕ → List ℕ
types_with system count signals row = line_with (Types system row) (types_content system count signals row)

-- ---- channels of GLONASS

-- a line of slots with a channel; there are `count`, and these are the first of them
abbrev pub slots_with : ℕ → List SlotNumber → ℕ → List ℕ
slots_with count slots row = line_with (Slots row) (slots_columns count slots row)

-- ---- times

-- the interval of the observations, given in milliseconds
abbrev pub interval_content : ℕ → List ℕ
interval_content interval = joined (right 10 (fixed 3 (pos interval)) ∷ [])

-- year, month, day, hour and minute in six columns each, and the second with seven decimals
abbrev pub first_content : Civil → List ℕ
first_content t = joined
    (right 6 (decimal t.year) ∷ right 6 (decimal t.month) ∷ right 6 (decimal t.day) ∷ right 6 (decimal t.hour)
    ∷ right 6 (decimal t.minute)
    ∷ right 13 (fixed 7 (pos (t.millisecond * 10_000))) ∷ codes "     GPS" ∷ [])

-- ---- the rows, each of one line or none

-- the content of the line of a row: of a system without phase shifts only the letter, and of unknown biases nothing
abbrev pub row_content : Shown → HeaderRow → List ℕ
row_content h Version = version_content (systems_letter h.plan)
row_content h (Texts row) = texts_content h.texts row
row_content h Position = position_content h.values
row_content h Delta = height_content h.values.height
row_content h (Types system row) =
    types_content system (length (planned_of system h.plan)) (planned_of system h.plan) row
row_content h StrengthUnit = codes "DBHZ"
row_content h Interval = interval_content (unwrap_or h.interval 0)
row_content h First = first_content (civil_of h.first)
row_content h (Shift system) = letter system ∷ []
row_content h (Slots row) = slots_columns (length (slots_of h.plan.channels)) (slots_of h.plan.channels) row
row_content h Biases = []
row_content h End = []

unfoldable pub row_line : Shown → HeaderRow → List ℕ
row_line h row = line_with row (row_content h row)

-- whether a row is in the header: types and phase shifts are those of a planned system, channels those of GLONASS, and
-- an optional row is there if it has a value
abbrev pub has_line : Shown → HeaderRow → Bool
has_line h (Texts row) = has_row h.texts row
has_line h Interval = is_some h.interval
has_line h (Types system row) = nat_lt row (type_rows (length (planned_of system h.plan)))
has_line h (Shift system) = is_planned h.plan system
has_line h (Slots zero) = is_planned h.plan Glonass
has_line h (Slots (suc row)) = nat_lt (suc row) (slot_rows (length (slots_of h.plan.channels)))
has_line h Biases = is_planned h.plan Glonass
has_line h other = true

-- the lines of a row: one, or none
abbrev pub row_lines : Shown → HeaderRow → List (List ℕ)
row_lines h row = if has_line h row then row_line h row ∷ [] else []

-- the types of a system, in one to six lines
abbrev pub rows_of_types : System → List HeaderRow
rows_of_types s = Types s 0 ∷ Types s 1 ∷ Types s 2 ∷ Types s 3 ∷ Types s 4 ∷ Types s 5 ∷ []

-- the rows in order: RINEX 3.05, table A2
abbrev pub all_rows : List HeaderRow
all_rows =
    Version ∷ Texts RunBy ∷ Texts Comment ∷ Texts Marker ∷ Texts MarkerNumber ∷ Texts MarkerType ∷ Texts Observer
    ∷ Texts RecNumber ∷ Texts AntNumber ∷ Position ∷ Delta
    ∷ (flat_map rows_of_types systems ++ (StrengthUnit ∷ Interval ∷ First
    ∷ (map Shift systems ++ (Slots 0 ∷ Slots 1 ∷ Slots 2 ∷ Slots 3 ∷ Biases ∷ End ∷ []))))

-- the lines of a header, in order
unfoldable pub header_lines : Shown → List (List ℕ)
header_lines h = flat_map (row_lines h) all_rows

-- ---- line by line

-- a line has the label of observation types
abbrev pub is_of_types : List ℕ → Bool
is_of_types line = has_label types_label line
