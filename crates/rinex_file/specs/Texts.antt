-- The texts of a header: their rows, columns and widths. RINEX 3.05, table A2.
use Rattle.std.specs.Prelude.{ℕ, ◌&&◌, ◌||◌, Bool, nat_le, nat_lt, List, [], ◌∷◌, length, get_or, map}
use Rattle.std.specs.Prelude.{true, false, codes, Option, Some, None, if◌then◌else◌}
use Rattle.std.specs.List.{list_all, list_any}
use Rattle.std.specs.Option.{option_or}
use Rattle.rinex_file.specs.declared.header.fields.HeaderField.{HeaderField}
use Rattle.rinex_file.specs.declared.header.fields.HeaderField.TheVariants.{RunBy, Date, Comment, Marker, MarkerNumber}
use Rattle.rinex_file.specs.declared.header.fields.HeaderField.TheVariants.{MarkerType, Observer, Agency, RecNumber, RecType, RecVersion}
use Rattle.rinex_file.specs.declared.header.fields.HeaderField.TheVariants.{AntNumber, AntType}
use Rattle.rinex_file.specs.declared.header.fault.HeadFault.{HeadFault}
use Rattle.rinex_file.specs.declared.header.fault.HeadFault.TheVariants.{TooLong, NotPrintable}
use Rattle.rinex_file.specs.Blanks.{trimmed}
use Rattle.rinex_columns.specs.Numbers.{left}

-- ---- the table of the texts

-- A field: its index among all, its name, as that of its option with underscores, and its width in columns. And the row
-- that begins with it: label, columns before the texts, the texts in order, which are none if there is no such row, and
-- whether each header has the row. Another row is there if some text in it isn't empty.
pub record Entry : Type 0 where
  pub place : ℕ
  pub name : List ℕ
  pub width : ℕ
  pub label : List ℕ
  pub front : List ℕ
  pub fields : List HeaderField
  pub is_required : Bool

abbrev pub row : ℕ → List ℕ → ℕ → List ℕ → List ℕ → List HeaderField → Bool → Entry
row place name width label front fields is_required = record {
  place = place;
  name = name;
  width = width;
  label = label;
  front = front;
  fields = fields;
  is_required = is_required;
}

-- a field with which no row begins
abbrev pub text : ℕ → List ℕ → ℕ → Entry
text place name width = row place name width [] [] [] true

abbrev pub entry_of : HeaderField → Entry
entry_of RunBy =
    row 0 (codes "run_by") 20 (codes "PGM / RUN BY / DATE") (left 20 (codes "rtcm2rinex")) (RunBy ∷ Date ∷ []) true
entry_of Date = text 1 (codes "date") 20
entry_of Comment = row 2 (codes "comment") 60 (codes "COMMENT") [] (Comment ∷ []) false
entry_of Marker = row 3 (codes "marker") 60 (codes "MARKER NAME") [] (Marker ∷ []) true
entry_of MarkerNumber = row 4 (codes "marker_number") 20 (codes "MARKER NUMBER") [] (MarkerNumber ∷ []) false
entry_of MarkerType = row 5 (codes "marker_type") 20 (codes "MARKER TYPE") [] (MarkerType ∷ []) true
entry_of Observer = row 6 (codes "observer") 20 (codes "OBSERVER / AGENCY") [] (Observer ∷ Agency ∷ []) true
entry_of Agency = text 7 (codes "agency") 40
entry_of RecNumber = row 8 (codes "rec_number") 20 (codes "REC # / TYPE / VERS") [] (RecNumber ∷ RecType ∷ RecVersion ∷ []) true
entry_of RecType = text 9 (codes "rec_type") 20
entry_of RecVersion = text 10 (codes "rec_version") 20
entry_of AntNumber = row 11 (codes "ant_number") 20 (codes "ANT # / TYPE") [] (AntNumber ∷ AntType ∷ []) true
entry_of AntType = text 12 (codes "ant_type") 20

abbrev pub place_of : HeaderField → ℕ
place_of field = (entry_of field).place

abbrev pub field_name : HeaderField → List ℕ
field_name field = (entry_of field).name

abbrev pub width_of : HeaderField → ℕ
width_of field = (entry_of field).width

abbrev pub label_of : HeaderField → List ℕ
label_of field = (entry_of field).label

abbrev pub front_of : HeaderField → List ℕ
front_of field = (entry_of field).front

abbrev pub fields_of : HeaderField → List HeaderField
fields_of field = (entry_of field).fields

abbrev pub is_required : HeaderField → Bool
is_required field = (entry_of field).is_required

-- ---- what follows from the table

-- the fields in the order in which they are validated
abbrev pub fields : List HeaderField
fields =
    RunBy ∷ Date ∷ Comment ∷ Marker ∷ MarkerNumber ∷ MarkerType ∷ Observer ∷ Agency ∷ RecNumber ∷ RecType ∷ RecVersion
    ∷ AntNumber ∷ AntType ∷ []

abbrev pub text_count : ℕ
text_count = length fields

-- the bytes of each text, in the order of the fields
abbrev pub HeaderLists : Type 0
HeaderLists = List (List ℕ)

-- the text of a field
abbrev pub text_of : HeaderLists → HeaderField → List ℕ
text_of t field = get_or t (place_of field) []

-- whether some text of a row isn't empty
abbrev pub has_text : HeaderLists → HeaderField → Bool
has_text t row = list_any (λ field. nat_lt 0 (length (text_of t field))) (fields_of row)

-- whether a row has a line
abbrev pub has_row : HeaderLists → HeaderField → Bool
has_row t row = is_required row || has_text t row

abbrev pub is_printable : ℕ → Bool
is_printable b = nat_le 32 b && nat_le b 126

-- the fault of the text of a field: an unprintable byte first, then its length without trailing blanks
abbrev pub fault_of : HeaderField → List ℕ → Option HeadFault
fault_of field text =
    if list_all is_printable text
    then (if nat_lt (width_of field) (length (trimmed text)) then Some (TooLong field) else None)
    else Some (NotPrintable field)

-- the fault of the first of these fields that has one
abbrev pub first_fault : HeaderLists → List HeaderField → Option HeadFault
first_fault t [] = None
first_fault t (field ∷ rest) = option_or (fault_of field (text_of t field)) (first_fault t rest)

-- each text without trailing blanks
abbrev pub trimmed_texts : HeaderLists → HeaderLists
trimmed_texts t = map trimmed t
