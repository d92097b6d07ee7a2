-- From one line of a header to the next while its lines are read.
use Rattle.std.specs.Prelude.{◌≡◌, ℕ, zero, suc, ◌+◌, ◌<◌, ◌≤◌, ◌==◌, nat_lt, Bool, true, false, List, [], ◌∷◌, ◌++◌}
use Rattle.std.specs.Prelude.{length, ◌||◌, set, take, drop, min, Option, Some, None, Result, Ok, Err, ⊤, ◌↔◌}
use Rattle.gnss_obs.specs.declared.cell.StationValues.{StationValues}
use Rattle.gnss_system.specs.Signals.{SignalAt, IsSignal, code_of, table}
use Rattle.gnss_system.specs.declared.system.System.{System}
use Rattle.gnss_system.specs.declared.system.System.TheVariants.{Glonass}
use Rattle.gnss_system.specs.declared.by_system.BySystem.{BySystem}
use Rattle.gnss_obs.specs.Channels.{ChannelsValue, slot_count}
use Rattle.gnss_obs.specs.Values.{PlanValue, planned_of}
use Rattle.gnss_system.specs.Satellites.{letter}
use Rattle.gnss_system.specs.SystemValues.{with_value_of}
use Rattle.rinex_file.specs.declared.header.fault.HeadFault.{HeadFault}
use Rattle.rinex_file.specs.declared.header.fields.HeaderField.{HeaderField}
use Rattle.rinex_file.specs.declared.header.rows.HeaderRow.{HeaderRow}
use Rattle.rinex_file.specs.declared.header.rows.HeaderRow.TheVariants.{Texts, Types, Interval, Shift, Slots}
use Rattle.rinex_file.specs.declared.header.rows.HeaderRow.TheVariants.{Biases, End}
use Rattle.rinex_file.specs.declared.read.parser_state.Expected.{Expected}
use Rattle.rinex_file.specs.declared.read.parser_state.Expected.TheVariants.{Header, Epoch}
use Rattle.rinex_file.specs.declared.read.parser_state.Refusal.{Refusal}
use Rattle.rinex_file.specs.declared.read.parser_state.Refusal.TheVariants.{Memory, Bad}
use Rattle.rinex_file.specs.Blanks.{trimmed}
use Rattle.rinex_file.specs.Texts.{HeaderLists, place_of, width_of, fault_of, fields_of, front_of, text_count}
use Rattle.rinex_file.specs.Texts.{has_row, is_required, label_of}
use Rattle.rinex_file.specs.FileValues.{AreTexts}
use Rattle.rinex_file.specs.Header.{header_lines, row_label, row_line, line_with, texts_line, type_rows, types_with, slots_with, has_line}
use Rattle.rinex_columns.specs.HeaderLine.{has_label}
use Rattle.rinex_columns.specs.Read.{ReadsExactly}
use Rattle.rinex_file.specs.Header.{is_of_types}
use Rattle.rinex_file.specs.inner.Header.{row_at, row_place, row_count, most_type_rows, is_given, is_optional}
use Rattle.rinex_file.specs.Slots.{SlotNumber, AreSlots, last_slot, slot_rows}
use Rattle.rinex_file.specs.inner.Read.Progress.{Known, Shown, IsHeadAt, Has, HasRow, IsRowRead, IsRowUnread}
use Rattle.rinex_file.specs.inner.Read.Progress.{lines_after, AreUnread, lines_before, AreListsAt, AreReadAt, counted}
use Rattle.rinex_file.specs.inner.Read.Progress.{known_slots, AreTypes, signals_begun, slots_begun}
use Rattle.rinex_file.specs.Begun.{IsShown}

-- a row other than those of types and the last
abbrev pub IsOnly : HeaderRow → Type 0
IsOnly (Types system row) = ⊥
IsOnly End = ⊥
IsOnly other = ⊤

-- a text begins with this byte
abbrev pub begins_with : ℕ → List ℕ → Bool
begins_with byte [] = false
begins_with byte (b ∷ bs) = b == byte

-- the items in the lines before a line of a list were read, and there are more
abbrev pub AreItemsBefore : Known → HeaderRow → Type 0
AreItemsBefore k (Types s row) =
    (row < most_type_rows) × (length (planned_of s k.shown.plan) ≡ signals_begun row)
    × (0 < row → row < type_rows (counted k s))
AreItemsBefore k (Slots row) =
    (row < 4) × (length (known_slots k) ≡ slots_begun row) × (0 < row → slots_begun row < k.slots)
    × (0 < counted k Glonass)
AreItemsBefore k other = ⊤

-- whether a row has a line, if this line comes next: a system is planned if its letter comes where its types begin, and
-- an optional row is there if its label comes
abbrev pub known_line : Known → List ℕ → HeaderRow → Bool
known_line k line (Texts row) = is_required row || has_label (label_of row) line
known_line k line Interval = has_label (row_label Interval) line
known_line k line (Types system zero) = begins_with (letter system) line
known_line k line (Types system (suc row)) = nat_lt (suc row) (type_rows (counted k system))
known_line k line (Shift system) = nat_lt 0 (counted k system)
known_line k line (Slots zero) = nat_lt 0 (counted k Glonass)
known_line k line (Slots (suc row)) = nat_lt (suc row) (slot_rows k.slots)
known_line k line Biases = nat_lt 0 (counted k Glonass)
known_line k line other = true

-- ---- a list in lines

-- The line is one of these items, which `Are` describes and `shown` writes. If it isn't the first, `count` is their
-- number; `old` are those that begin in the lines before it.
pub record IsLineOf {X : Type 0} (Are : List X → Type 0) (begun : ℕ → ℕ) (shown : ℕ → List X → ℕ → List ℕ) (row : ℕ)
    (line : List ℕ) (count : ℕ) (old all : List X) : Type 0 where
  pub are : Are all
  pub later : 0 < row → count ≡ length all
  pub before : old ≡ take (begun row) all
  pub is : line ≡ shown (length all) all row

-- A line of items was read, after lines with the number `before` and the items `old`: their number, and those that
-- begin in the lines up to this one.
pub record TakesItems {X : Type 0} (Are : List X → Type 0) (begun : ℕ → ℕ) (shown : ℕ → List X → ℕ → List ℕ) (row : ℕ)
    (line : List ℕ) (before : ℕ) (old : List X) (count : ℕ) (new : List X) : Type 0 where
  pub later : 0 < row → before ≡ count
  pub size : length new ≡ min (begun (suc row)) count
  pub grows : take (begun row) new ≡ old
  pub is : line ≡ shown count new row
  pub taken : (all : List X) → IsLineOf Are begun shown row line before old all
      → (length all ≡ count) × (new ≡ take (begun (suc row)) all)

abbrev pub IsLineOfSlots : ℕ → List ℕ → ℕ → List SlotNumber → List SlotNumber → Type 0
IsLineOfSlots = IsLineOf (AreSlots 0) slots_begun slots_with

-- a line of slots was read, and the slots that are left have numbers after the last
pub record TakesSlots (row : ℕ) (line : List ℕ) (before : ℕ) (old : List SlotNumber) (count : ℕ)
    (new : List SlotNumber) : Type 0 where
  pub items : TakesItems (AreSlots 0) slots_begun slots_with row line before old count new
  pub room : count + last_slot 0 new ≤ length new + slot_count

-- the line was taken, or it is no line of slots after these
abbrev pub TakesOrRefusesSlots : ℕ → List ℕ → ℕ → List SlotNumber → ℕ → List SlotNumber → Bool → Type 0
TakesOrRefusesSlots row line before old count new true = TakesSlots row line before old count new
TakesOrRefusesSlots row line before old count new false = (all : List SlotNumber) → IsLineOfSlots row line before old all → ⊥

abbrev pub IsLineOfTypes : System → ℕ → List ℕ → ℕ → List ℕ → List ℕ → Type 0
IsLineOfTypes system = IsLineOf (AreTypes system) signals_begun (types_with system)

-- a line of the types of a system was read, which has as many signals as the table or fewer
pub record TakesTypes (system : System) (row : ℕ) (line : List ℕ) (before : ℕ) (old : List ℕ) (count : ℕ)
    (new : List ℕ) : Type 0 where
  pub items : TakesItems (AreTypes system) signals_begun (types_with system) row line before old count new
  pub few : count ≤ length (table system)
  pub rows : row < type_rows count

-- no signals of a system with this number, of which `old` were read, have this line of types
abbrev pub RefusesTypes : System → ℕ → List ℕ → ℕ → List ℕ → Type 0
RefusesTypes system row line count old = (all : List ℕ) → IsLineOfTypes system row line count old all → ⊥

-- a line of types is there by the number of signals that was read, and that of an optional row by its value
abbrev pub IsThere : Known → HeaderRow → Type 0
IsThere k (Types s row) = row < type_rows (counted k s)
IsThere k r = is_optional r ≡ true → is_given k.shown.texts k.shown.interval r ≡ true

-- The line of a row was read: a header with this row has the line if it has what is known after it; what the rows
-- before said is unchanged.
pub record IsHeaderLineRead (row : HeaderRow) (line : List ℕ) (old new : Known) : Type 0 where
  pub lists : AreListsAt old → AreListsAt new
  pub read : IsRowRead new row
  pub early : (r : HeaderRow) → row_place r < row_place row → IsRowRead old r → IsRowRead new r
  pub later : (r : HeaderRow) → row_place row < row_place r → IsRowUnread old r → IsRowUnread new r
  pub there : IsThere new row
  pub own : (h : Shown) → IsShown h → Has old (row_place row) h → has_line h row ≡ true
      → (row_line h row ≡ line) ↔ HasRow new h row
  pub kept : (h : Shown) (r : HeaderRow) → row_place r < row_place row → HasRow old h r ↔ HasRow new h r

-- no header with what was read has this line in a row
abbrev pub RefusesHeaderLine : Known → HeaderRow → List ℕ → Type 0
RefusesHeaderLine old row line =
    (h : Shown) → IsShown h → Has old (row_place row) h → has_line h row ≡ true → row_line h row ≡ line → ⊥

-- the line was accepted, and this is known after it; or no header has it in this row
abbrev pub ReadsOrRefuses : HeaderRow → List ℕ → Known → Known → Bool → Type 0
ReadsOrRefuses row line old new true = IsHeaderLineRead row line old new
ReadsOrRefuses row line old new false = RefusesHeaderLine old row line

-- a header has what was read, and its lines from an index on, with others after them, are these
pub record GoesOn (k : Known) (place : ℕ) (h : Shown) (others lines : List (List ℕ)) : Type 0 where
  pub is : IsShown h
  pub has : Has k place h
  pub rest : lines_after h place ++ others ≡ lines

-- a header that goes on with the line has what is known after it, and goes on there; and the line is that of each
-- header with what is known after it
pub record Takes (old : Known) (place : ℕ) (line : List ℕ) (new : Known) (next : ℕ) : Type 0 where
  pub goes : (h : Shown) (others left : List (List ℕ)) → GoesOn old place h others (line ∷ left)
      → GoesOn new next h others left
  pub back : (h : Shown) → IsShown h → Has new next h → Has old place h
  pub lines : (h : Shown) → IsShown h → Has new next h → lines_before h next ≡ lines_before h place ++ line ∷ []

-- the line follows those before a row, and the row at `next` follows it
pub record GoesTo (old : Known) (place : ℕ) (line : List ℕ) (new : Known) (next : ℕ) : Type 0 where
  pub takes : Takes old place line new next
  pub at : IsHeadAt new next

-- the line is the last of the header that was read
pub record EndsHeader (old : Known) (place : ℕ) (line : List ℕ) (new : Known) : Type 0 where
  pub is : IsShown new.shown
  pub goes : (h : Shown) (others left : List (List ℕ)) → GoesOn old place h others (line ∷ left)
      → (h ≡ new.shown) × (others ≡ left)
  pub has : Has old place new.shown
  pub lines : header_lines new.shown ≡ lines_before new.shown place ++ line ∷ []

abbrev pub StepsTo : Known → ℕ → List ℕ → Known → Expected → Type 0
StepsTo old place line new (Header next) = GoesTo old place line new next
StepsTo old place line new Epoch = EndsHeader old place line new
StepsTo old place line new other = ⊥

-- no header continues with this line
abbrev pub NoneGoesOn : Known → ℕ → List ℕ → Type 0
NoneGoesOn k place line = (h : Shown) (others left : List (List ℕ)) → GoesOn k place h others (line ∷ left) → ⊥

-- the result of a line: what is expected after it, or no header continues with it; memory runs out at types alone
abbrev pub TakesHeaderLine : Known → ℕ → List ℕ → Known → Result Expected Refusal → Type 0
TakesHeaderLine old place line new (Ok next) = StepsTo old place line new next
TakesHeaderLine old place line new (Err Bad) = NoneGoesOn old place line
TakesHeaderLine old place line new (Err Memory) = is_of_types line ≡ true

-- the row at an index is expected, if some plan fits
abbrev pub expected_if : Bool → ℕ → Result Expected Refusal
expected_if true place = Ok (Header place)
expected_if false place = Err Bad

-- no row from an index up to another has a line, if this line comes next
pub record SameFrom (k : Known) (line : List ℕ) (place next : ℕ) : Type 0 where
  pub goes : (h : Shown) (others left : List (List ℕ)) → GoesOn k place h others (line ∷ left)
      → GoesOn k next h others (line ∷ left)
  pub back : (h : Shown) → IsShown h → Has k next h → Has k place h
  pub lines : (h : Shown) → IsShown h → Has k next h → lines_before h next ≡ lines_before h place
  pub none : (i : ℕ) → place ≤ i → i < next → known_line k line (row_at i) ≡ false
  pub read : AreReadAt k next
  pub unread : AreUnread k next
  pub expected : next < row_count

-- Some if and only if the line is that of a row with the content of a value, and then this value
abbrev pub ReadsHeaderRow : {V : Type 0} → HeaderRow → (V → Type 0) → (V → List ℕ) → List ℕ → Option V → Type 0
ReadsHeaderRow row Is content = ReadsExactly Is (λ v. line_with row (content v))

-- ---- texts

-- a result, unless there is a fault
abbrev pub if_fine : Option HeadFault → Option HeaderLists → Option HeaderLists
if_fine None result = result
if_fine (Some fault) result = None

-- the texts with those of these fields as they are in the columns from one on, unless one isn't printable
abbrev pub texts_in : List HeaderField → ℕ → List ℕ → HeaderLists → Option HeaderLists
texts_in [] column line x = Some x
texts_in (f ∷ fs) column line x = if_fine (fault_of f (take (width_of f) (drop column line)))
    (texts_in fs (column + width_of f) line (set x (place_of f) (trimmed (take (width_of f) (drop column line)))))

-- no header has this line in a row of texts
abbrev pub RefusesTexts : HeaderField → List ℕ → Type 0
RefusesTexts row line = (x : HeaderLists) → AreTexts x → has_row x row ≡ true → texts_line x row ≡ line → ⊥

-- the texts of a row were read: the line is that of these texts
pub record ReadsTexts (row : HeaderField) (line : List ℕ) (old new : HeaderLists) : Type 0 where
  pub size : length old ≡ text_count
  pub read : texts_in (fields_of row) (length (front_of row)) line old ≡ Some new
  pub some : has_row new row ≡ true
  pub shown : texts_line new row ≡ line

-- the texts were read, or no header has them
abbrev pub ReadsOrRefusesTexts : HeaderField → List ℕ → HeaderLists → HeaderLists → Bool → Type 0
ReadsOrRefusesTexts row line old new true = ReadsTexts row line old new
ReadsOrRefusesTexts row line old new false = RefusesTexts row line

-- ---- what was read, with one part replaced

abbrev pub with_texts : Known → HeaderLists → Known
with_texts k texts = record k { shown = record k.shown { texts = texts } }

abbrev pub with_interval : Known → ℕ → Known
with_interval k interval = record k { shown = record k.shown { interval = Some interval } }

abbrev pub with_values : Known → StationValues → Known
with_values k values = record k { shown = record k.shown { values = values } }

abbrev pub with_first : Known → ℕ → Known
with_first k first = record k { shown = record k.shown { first = first } }

abbrev pub with_letter : Known → ℕ → Known
with_letter k letter = record k { letter = letter }

abbrev pub with_signals : PlanValue → BySystem (List ℕ) → PlanValue
with_signals p signals = record p { signals = signals }

abbrev pub with_slots : Known → ℕ → ChannelsValue → Known
with_slots k count channels = record k {
  shown = record k.shown { plan = record k.shown.plan { channels = channels } };
  slots = count;
}

-- what was read, with the number of a system's signals and those that were read
abbrev pub with_types : System → Known → ℕ → List ℕ → Known
with_types system k count signals = record k {
  shown = record k.shown { plan = with_signals k.shown.plan (with_value_of system k.shown.plan.signals signals) };
  counts = with_value_of system k.counts count;
}

-- ---- lines of types

-- the code of this signal of a system is at a column of a line, counted from 0
abbrev pub HasSignalAt : System → List ℕ → ℕ → SignalAt → Type 0
HasSignalAt system line column s = IsSignal s × (s.system ≡ system) × (take 2 (drop column line) ≡ code_of s)
