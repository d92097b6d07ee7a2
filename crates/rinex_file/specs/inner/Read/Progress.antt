-- What is known of a file while it is read line by line, and which files are still possible.
use Rattle.std.specs.Prelude.{◌≡◌, ℕ, suc, ◌+◌, ◌*◌, ◌/◌, ◌<◌, ◌≤◌, ◌==◌, ◌||◌, ◌&&◌, true, false, min, Bool, nat_lt}
use Rattle.std.specs.Prelude.{nat_le, List, [], ◌∷◌, ◌++◌, length, take, drop, map, All, nat_eq, flat_map, Option, Some}
use Rattle.std.specs.Prelude.{None, IfSome, ⊤}
use Rattle.gnss_system.specs.declared.system.System.{System}
use Rattle.gnss_system.specs.declared.system.System.TheVariants.{Glonass}
use Rattle.gnss_obs.specs.declared.cell.StationValues.{StationValues}
use Rattle.gnss_obs.specs.Channels.{AreChannels, slot_count}
use Rattle.gnss_obs.specs.Intervals.{IsInterval}
use Rattle.gnss_obs.specs.Values.{PlanValue, planned_of}
use Rattle.rinex_file.specs.declared.header.rows.HeaderRow.{HeaderRow}
use Rattle.rinex_file.specs.declared.header.rows.HeaderRow.TheVariants.{Version, Texts, Position, Delta, Types}
use Rattle.rinex_file.specs.declared.header.rows.HeaderRow.TheVariants.{Interval, First, Slots}
use Rattle.rinex_file.specs.declared.read.parser_state.Expected.{Expected}
use Rattle.rinex_file.specs.declared.read.parser_state.Expected.TheVariants.{Header, Epoch, EventPosition, EventHeight}
use Rattle.rinex_file.specs.declared.read.parser_state.Expected.TheVariants.{EventEpoch, Satellite}
use Rattle.rinex_file.specs.Texts.{HeaderLists, text_of, fields_of}
use Rattle.rinex_file.specs.declared.header.fields.HeaderField.{HeaderField}
use Rattle.rinex_file.specs.Value as file
use Rattle.rinex_file.specs.Value.{SatelliteRow, Stamped, FileValue}
use Rattle.gnss_obs.specs.GatheredEpochs.{AreStationValues, IsCoordinate}
use Rattle.rinex_file.specs.FileValues.{AreTexts, IsTime, IsFileValue}
use Rattle.rinex_file.specs.Header.{flagged_letter, systems_letter}
use Rattle.rinex_file.specs.inner.Header.{row_at, row_place, row_count, is_given, first_types}
pub use Rattle.rinex_file.specs.Header.{Shown}
pub use Rattle.rinex_file.specs.inner.Header.{lines_before, lines_after}
use Rattle.rinex_file.specs.Slots.{SlotNumber, slots_of, last_slot, slots_in_line}
use Rattle.rinex_file.specs.Limits.{types_in_line}
use Rattle.rinex_file.specs.Lines.{satellite_line}
use Rattle.gnss_system.specs.Satellites.{letter}
use Rattle.gnss_system.specs.SystemValues.{value_of}
use Rattle.gnss_system.specs.declared.by_system.BySystem.{BySystem}
use Rattle.gnss_system.specs.Signals.{table}
use Rattle.std.specs.List.{IsDistinct}
use Rattle.rinex_file.specs.File.{stamped_lines, shown_of}
use Rattle.rinex_file.specs.Begun.{IsShown, StartsAt}

-- ---- the header

-- What was read of a header: its parts, each with its initial value until its line is read; the letter in the first
-- line; the number of a system's signals, by its first line of types, or 0 without one; and the number of slots with a
-- channel, by the first line of slots, or 0 without one.
pub record Known : Type 0 where
  pub shown : Shown
  pub letter : ℕ
  pub counts : BySystem ℕ
  pub slots : ℕ

abbrev pub counted : Known → System → ℕ
counted k system = value_of system k.counts

-- ---- signals

-- signals of a system: listed, none of them twice, and at least one
pub record AreTypes (system : System) (all : List ℕ) : Type 0 where
  pub listed : All (λ i. i < length (table system)) all
  pub apart : IsDistinct nat_eq all
  pub some : 0 < length all

-- the number of signals whose types begin in this number of lines
abbrev pub signals_begun : ℕ → ℕ
signals_begun rows = (types_in_line * rows + 3) / 4

-- the number of slots in this number of lines
abbrev pub slots_begun : ℕ → ℕ
slots_begun rows = slots_in_line * rows

-- A list of items in lines, of which `begun rows` begin in this number of lines: in the lines up to a row, it is the
-- same as one of `count` items, of which these were read.
pub record AreSameItems {X : Type 0} (begun : ℕ → ℕ) (row count : ℕ) (read all : List X) : Type 0 where
  pub number : count ≡ length all
  pub same : take (begun (suc row)) all ≡ take (begun (suc row)) read

-- ---- one row after the other

-- each part that was read is one of a header
pub record AreValid (k : Known) : Type 0 where
  pub texts : AreTexts k.shown.texts
  pub interval : IfSome k.shown.interval IsInterval
  pub listed : (system : System) → All (λ i. i < length (table system)) (planned_of system k.shown.plan)
  pub apart : (system : System) → IsDistinct nat_eq (planned_of system k.shown.plan)
  pub channels : AreChannels k.shown.plan.channels
  pub values : AreStationValues k.shown.values
  pub first : IsTime k.shown.first

-- these texts are the same in these fields
abbrev pub AreSameTexts : HeaderLists → HeaderLists → List HeaderField → Type 0
AreSameTexts x y fs = map (text_of x) fs ≡ map (text_of y) fs

abbrev pub position_of : StationValues → StationValues
position_of v = record v { height = 0 }

-- the slots with a channel in the header that was read
abbrev pub known_slots : Known → List SlotNumber
known_slots k = slots_of k.shown.plan.channels

-- a header has what the line of a row said
abbrev pub HasRow : Known → Shown → HeaderRow → Type 0
HasRow k h Version = systems_letter h.plan ≡ k.letter
HasRow k h (Texts row) = AreSameTexts h.texts k.shown.texts (fields_of row)
HasRow k h Position = position_of h.values ≡ position_of k.shown.values
HasRow k h Delta = h.values.height ≡ k.shown.values.height
HasRow k h Interval = h.interval ≡ k.shown.interval
HasRow k h First = h.first ≡ k.shown.first
HasRow k h (Types s row) =
    AreSameItems signals_begun row (counted k s) (planned_of s k.shown.plan) (planned_of s h.plan)
HasRow k h (Slots row) = AreSameItems slots_begun row k.slots (known_slots k) (slots_of h.plan.channels)
HasRow k h other = ⊤

-- a header has what the rows before an index said
pub record Has (k : Known) (place : ℕ) (h : Shown) : Type 0 where
  pub rows : (i : ℕ) → i < place → HasRow k h (row_at i)

-- the header that was read, with this plan
abbrev pub shown_with : Known → PlanValue → Shown
shown_with k p = record k.shown { plan = p }

-- no more items of a list were read than there are, and no more signals than the table has; the slots that are left
-- follow the last one, and there are none if no signals of GLONASS are planned
pub record AreWithin (counts : BySystem ℕ) (plan : PlanValue) (slots : ℕ) : Type 0 where
  pub read : (s : System) → length (planned_of s plan) ≤ value_of s counts
  pub few : (s : System) → value_of s counts ≤ length (table s)
  pub slots_read : length (slots_of plan.channels) ≤ slots
  pub room : slots + last_slot 0 (slots_of plan.channels) ≤ length (slots_of plan.channels) + slot_count
  pub unplanned : value_of Glonass counts ≡ 0 → slots ≡ 0

abbrev pub AreListsAt : Known → Type 0
AreListsAt k = AreWithin k.counts k.shown.plan k.slots

-- the items that begin in the lines up to a row were read
abbrev pub IsReadTo : BySystem ℕ → PlanValue → ℕ → HeaderRow → Type 0
IsReadTo counts plan slots (Types s row) =
    min (signals_begun (suc row)) (value_of s counts) ≤ length (planned_of s plan)
IsReadTo counts plan slots (Slots row) = min (slots_begun (suc row)) slots ≤ length (slots_of plan.channels)
IsReadTo counts plan slots other = ⊤

abbrev pub IsRowRead : Known → HeaderRow → Type 0
IsRowRead k r = IsReadTo k.counts k.shown.plan k.slots r

-- nothing was read of the line of a row
abbrev pub IsBlank : HeaderLists → Option ℕ → BySystem ℕ → PlanValue → ℕ → HeaderRow → Type 0
IsBlank x interval counts plan slots (Types s row) =
    (length (planned_of s plan) ≤ signals_begun row) × (row ≡ 0 → value_of s counts ≡ 0)
IsBlank x interval counts plan slots (Slots row) =
    (length (slots_of plan.channels) ≤ slots_begun row) × (row ≡ 0 → slots ≡ 0)
IsBlank x interval counts plan slots r = is_given x interval r ≡ false

abbrev pub IsRowUnread : Known → HeaderRow → Type 0
IsRowUnread k r = IsBlank k.shown.texts k.shown.interval k.counts k.shown.plan k.slots r

-- the lines of the rows before an index were read, and none of the others
abbrev pub AreReadAt : Known → ℕ → Type 0
AreReadAt k place = (i : ℕ) → i < place → IsRowRead k (row_at i)

abbrev pub AreUnread : Known → ℕ → Type 0
AreUnread k place = (r : HeaderRow) → place ≤ row_place r → IsRowUnread k r

-- signals of a system are planned, or may be by the first line if the row of its first types isn't before an index: `M`
-- is the letter of two or more systems, another letter that of one
abbrev pub is_chosen : Known → ℕ → System → Bool
is_chosen k place s =
    nat_lt 0 (counted k s) || (nat_le place (first_types s) && (k.letter == 77 || k.letter == letter s))

-- those systems have the letter of the first line, so that some plan has it and what the rows before an index said
abbrev pub fits : Known → ℕ → Bool
fits k place = (flagged_letter (is_chosen k place) == k.letter) && nat_lt 0 k.letter

-- a line of a header is expected, that of the row at an index or of a later one
pub record IsHeadAt (k : Known) (place : ℕ) : Type 0 where
  pub valid : AreValid k
  pub lists : AreListsAt k
  pub read : AreReadAt k place
  pub unread : AreUnread k place
  pub fitting : 0 < place → fits k place ≡ true
  pub expected : place < row_count

-- these are the lines of the rows before an index, for every header with what was read
abbrev pub AreHeadLines : Known → ℕ → List (List ℕ) → Type 0
AreHeadLines k place lines = (h : Shown) → IsShown h → Has k place h → lines ≡ lines_before h place

-- ---- the file

-- what was read of a file: header and epochs, and, if satellites are expected, an epoch's change of station values, its
-- time and its satellites so far
pub record Progress : Type 0 where
  pub expected : Expected
  pub known : Known
  pub epochs : List Stamped
  pub change : Option StationValues
  pub time : ℕ
  pub rows : List SatelliteRow

-- a file with the header that was read, and these epochs
abbrev pub file_with : Progress → List Stamped → FileValue
file_with s epochs =
    file.file_with s.known.shown.texts s.known.shown.interval s.known.shown.plan s.known.shown.values epochs

-- an epoch with the change and at the time that were read
abbrev pub stamped : Progress → List SatelliteRow → Stamped
stamped s rows = record { change = s.change; time = s.time; rows = rows }

-- a line of the header is expected: the file has what was read, and these lines after it
pub record IsInHeader (s : Progress) (place : ℕ) (v : FileValue) (left : List (List ℕ)) : Type 0 where
  pub first : Stamped
  pub others : List Stamped
  pub epochs : v.epochs ≡ first ∷ others
  pub has : Has s.known place (shown_of v first.time)
  pub rest : lines_after (shown_of v first.time) place ++ flat_map stamped_lines (first ∷ others) ≡ left

-- an epoch is expected, or the end
pub record IsAtEpoch (s : Progress) (v : FileValue) (left : List (List ℕ)) : Type 0 where
  pub others : List Stamped
  pub value : v ≡ file_with s (s.epochs ++ others)
  pub starts : StartsAt s.known.shown.first (s.epochs ++ others)
  pub rest : left ≡ flat_map stamped_lines others

-- an event was begun: `taken` of its lines were accepted, and `Show` holds of its station values
pub record IsInEvent (s : Progress) (taken : ℕ) (Show : StationValues → Type 0) (v : FileValue)
    (left : List (List ℕ)) : Type 0 where
  pub next : Stamped
  pub values : StationValues
  pub others : List Stamped
  pub value : v ≡ file_with s (s.epochs ++ next ∷ others)
  pub starts : StartsAt s.known.shown.first (s.epochs ++ next ∷ others)
  pub change : next.change ≡ Some values
  pub shown : Show values
  pub rest : left ≡ drop taken (stamped_lines next) ++ flat_map stamped_lines others

-- a position: coordinates, and no height
abbrev pub IsPosition : StationValues → Type 0
IsPosition v = IsCoordinate v.x × IsCoordinate v.y × IsCoordinate v.z × (v.height ≡ 0)

-- this number of satellites is expected
pub record IsInEpoch (s : Progress) (satellites : ℕ) (v : FileValue) (left : List (List ℕ)) : Type 0 where
  pub more : List SatelliteRow
  pub others : List Stamped
  pub count : length more ≡ satellites
  pub value : v ≡ file_with s (s.epochs ++ stamped s (s.rows ++ more) ∷ others)
  pub starts : StartsAt s.known.shown.first (s.epochs ++ stamped s (s.rows ++ more) ∷ others)
  pub rest : left ≡ map satellite_line more ++ flat_map stamped_lines others

abbrev pub IsAt : Progress → Expected → FileValue → List (List ℕ) → Type 0
IsAt s (Header place) v left = IsInHeader s place v left
IsAt s Epoch v left = IsAtEpoch s v left
IsAt s EventPosition v left = IsInEvent s 1 (λ w. ⊤) v left
IsAt s (EventHeight position) v left = IsInEvent s 2 (λ w. position_of w ≡ position) v left
IsAt s (EventEpoch values) v left = IsInEvent s 3 (λ w. w ≡ values) v left
IsAt s (Satellite n) v left = IsInEpoch s n v left

-- the file value continues with these lines after what was read
unfoldable pub HasLinesLeft : Progress → FileValue → List (List ℕ) → Type 0
HasLinesLeft s v left = IsFileValue v × IsAt s s.expected v left

-- the same with another line expected
abbrev pub expected_next : Progress → Expected → Progress
expected_next s expected = record s { expected = expected }

-- the first line of an epoch, after an event with these station values or none
abbrev pub epoch_after : Option StationValues → Expected
epoch_after None = Epoch
epoch_after (Some values) = EventEpoch values

-- what was read after the first line of an epoch, with this change of station values before it
abbrev pub begun_at : Progress → Option StationValues → ℕ → ℕ → Progress
begun_at s c t n = record s { expected = Satellite n; change = c; time = t }

-- what was read after the line of a satellite, if n satellites are left
abbrev pub with_row : Progress → SatelliteRow → ℕ → Progress
with_row s row n = record s { expected = Satellite n; rows = s.rows ++ row ∷ [] }

-- what was read after the line of an epoch's last satellite
abbrev pub with_epoch : Progress → Progress
with_epoch s = record s { expected = Epoch; epochs = s.epochs ++ stamped s s.rows ∷ []; rows = [] }
