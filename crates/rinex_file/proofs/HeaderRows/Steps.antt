-- The steps from a row of a header to the next.
use Rattle.rinex_file.proofs.Reading.Epochs.{cons_parts}
use Rattle.rinex_file.proofs.HeaderRows.Agree.{less_or, rows_when, placed, line_next, line_none, before_next}
use Rattle.rinex_file.proofs.HeaderRows.Letters.{has_fits}
use Rattle.std.proofs.lemmas.Slice.Eq.{bytes_eq-Decides}
use Rattle.rinex_file.proofs.HeaderRows.Texts.{each_field, equal_or, length-left, none_same, same_some}
use Rattle.rinex_file.proofs.HeaderRows.Types.{content_first}
use Rattle.rinex_file.proofs.HeaderRows.Slots.{no_slots}
use Rattle.rinex_file.proofs.PlainTexts.{both}
use Rattle.rinex_file.proofs.HeaderRows.Places.{place_at, earlier_slots, earlier_types, few_rows, known_at, number_known, types_early}
use Rattle.rinex_file.proofs.Names.{each_system, Glonass, not-false, bytes_eq, label_columns, common_steps, is_of_types, Result, Refusal, TakesHeaderLine, expected_if, drop, all_rows, arith, ◌≡◌, ◌∙◌, sym, ap, refl, subst, ℕ, zero, suc, ◌+◌, ◌<◌, ◌≤◌, Bool, true, false, List, [], ◌∷◌, ◌++◌, length, append-nil, not, ◌≢◌, ◌==◌, ◌&&◌, ◌↔◌, nat_lt, nat_tests, System, planned_of, Known, IsShown, AreValid, Shown, IsHeadAt, row_lines, row_line, lines_before, lines_after, signals_begun, HeaderRow, Types, StrengthUnit, Shift, End, Expected, has_line, row_at, row_count, row_place, type_rows, known_line, RefusesHeaderLine, NoneGoesOn, SameFrom, Has, HasRow, counted, fits, begins_with, IsHeaderLineRead, GoesOn, Takes, flat_map, header_line, letter, codes, is_less, nil_from_length, Slots, Biases, slots_of, slot_rows, known_slots, not-true, ltb-false, add-one, eq-eqb, Texts, First, is_given, is_optional, is_required, has_text, label_of, left, AreUnread, append_assoc, ap₂, or_parts, has_label, fields_of, length-append, ◌||◌, Interval, row_content, row_label, is_some, lit≤, Version, Position, Delta, at_most, most_type_rows, AreListsAt, AreReadAt, IsRowRead, IsRowUnread, slots_begun, lt-ltb, AreItemsBefore, types_with}
use Rattle.rinex_file.proofs.HeaderRows.Lists.{still_same}

-- ---- the items before an expected line

-- the lines of a list before this one were read
before_types : {n : ℕ} (less : n < row_count) (k : Known) (s : System) (row : ℕ) → row_at n ≡ Types s (suc row) → AreReadAt k n → IsRowRead k (Types s row)
before_types less k s row at read = let (here, early) = earlier_types less s row at in subst (IsRowRead k) here (read (row_place (Types s row)) early)

before_slots : {n : ℕ} (less : n < row_count) (k : Known) (row : ℕ) → row_at n ≡ Slots (suc row) → AreReadAt k n → IsRowRead k (Slots row)
before_slots less k row at read = let (here, early) = earlier_slots less row at in subst (IsRowRead k) here (read (row_place (Slots row)) early)

-- a line of types that isn't the first is expected by the number of signals
rows_there : (k : Known) (line : List ℕ) (s : System) (row : ℕ) → known_line k line (Types s row) ≡ true → 0 < row → row < type_rows (counted k s)
rows_there k line s row has far = grind (arith, is_less)

begun_types : (row count : ℕ) → row < type_rows count → signals_begun row ≤ count
begun_types row count less = omega (arith, less)

begun_slots : (row count : ℕ) → row < slot_rows count → slots_begun row < count
begun_slots row count less = omega (arith, less)

module _ {n : ℕ} (less : n < row_count) (k : Known) (line : List ℕ) (lists : AreListsAt k) (read : AreReadAt k n) (unread : AreUnread k n) where
  -- no item of the row that is expected was read
  unread_at : (r : HeaderRow) → row_at n ≡ r → IsRowUnread k r
  unread_at r at = let here = place_at n r less at in unread r (omega (arith, here))

  size_types : (s : System) (row : ℕ) → row_at n ≡ Types s row → known_line k line (Types s row) ≡ true → length (planned_of s k.shown.plan) ≡ signals_begun row
  size_types s zero at has = let none = (unread_at (Types s 0) at).0 in omega (arith, none)
  size_types s (suc row) at has =
      let some = begun_types (suc row) (counted k s) (rows_there k line s (suc row) has (omega arith)) in
      omega (arith, (unread_at (Types s (suc row)) at).0, before_types less k s row at read, some)

  size_slots : (row : ℕ) → row_at n ≡ Slots row → known_line k line (Slots row) ≡ true → length (known_slots k) ≡ slots_begun row
  size_slots zero at has = let none = (unread_at (Slots 0) at).0 in omega (arith, none)
  size_slots (suc row) at has =
      let some = begun_slots (suc row) k.slots (is_less (suc row) (slot_rows k.slots) has) in
      omega (arith, (unread_at (Slots (suc row)) at).0, before_slots less k row at read, some)

  -- a line of slots is expected only if signals of GLONASS are planned
  some_planned : (row : ℕ) → known_line k line (Slots row) ≡ true → 0 < counted k Glonass
  some_planned row has = grind (arith, common_steps, begun_slots)

  pub items_expected : (r : HeaderRow) → row_at n ≡ r → known_line k line r ≡ true → AreItemsBefore k r
  items_expected (Types s row) at has = (is_less row most_type_rows (few_rows less (Types s row) at), size_types s row at has, rows_there k line s row has)
  items_expected (Slots row) at has = (is_less row 4 (few_rows less (Slots row) at), size_slots row at has, more row has, some_planned row has) where
    more : (row : ℕ) → known_line k line (Slots row) ≡ true → 0 < row → slots_begun row < k.slots
    more row h1 h2 = grind (arith, common_steps, begun_slots)
  items_expected r at has = grind arith

-- ---- a row whose line was read

module _ {n : ℕ} {r : HeaderRow} {line : List ℕ} {old new : Known} (less : n < row_count) (at : row_at n ≡ r) (row_read : IsHeaderLineRead r line old new) where
  placed_at : (h : Shown) → Has old n h → Has old (row_place r) h
  placed_at h a = subst (λ m. Has old m h) (place_at n r less at) a

  before : (i : ℕ) → i < n → row_place (row_at i) < row_place r
  before i l = subst (λ m. row_place (row_at i) < m) (place_at n r less at) (subst (λ m. m < n) (sym (placed i (omega (arith, l, less)))) l)

  -- what holds of this row and of those before it
  up_to_next : (P : HeaderRow → Type 0) → P r → ((i : ℕ) → i < n → P (row_at i)) → (i : ℕ) → i < suc n → P (row_at i)
  up_to_next P own early i l = equal_or (P (row_at i)) i n (λ same. subst P (sym at ∙ ap row_at (sym same)) own) (λ far. early i (omega (arith, l, far)))

  has_before : (h : Shown) → Has new (suc n) h → Has old n h
  has_before h a = record { rows = λ i l. (row_read.kept h (row_at i) (before i l)).1 (a.rows i (omega (arith, l))) }

  has_after : (h : Shown) → Has old n h → HasRow new h r → Has new (suc n) h
  has_after h a own = record { rows = up_to_next (HasRow new h) own (λ i l. (row_read.kept h (row_at i) (before i l)).0 (a.rows i l)) }

  pub read_next : AreReadAt old n → AreReadAt new (suc n)
  read_next read = up_to_next (IsRowRead new) row_read.read (λ i l. row_read.early (row_at i) (before i l) (read i l))

  pub unread_next : AreUnread old n → AreUnread new (suc n)
  unread_next unread q far = let here = place_at n r less at in row_read.later q (omega (arith, far, here)) (unread q (omega (arith, far)))

-- ---- which rows have a line

-- after the types, the number of a system's signals is known
planned_known : (n : ℕ) → row_place StrengthUnit < n → (s : System) (k : Known) (h : Shown) → Has k n h → nat_lt 0 (length (planned_of s h.plan)) ≡ nat_lt 0 (counted k s)
planned_known n far s k h has = let early = types_early s in ap (nat_lt 0) (sym (number_known has s (omega (arith, far, early))))

far_slots : (n row : ℕ) → n ≡ row_place (Slots row) → row_place StrengthUnit < n
far_slots n row e = omega (arith, e)

-- after a line of a list, the number of its items is known, and the first of them
slots_known : {n : ℕ} (less : n < row_count) (row : ℕ) (k : Known) (h : Shown) → row_at n ≡ Slots (suc row) → Has k n h → HasRow k h (Slots row)
slots_known less row k h at has = let (here, early) = earlier_slots less row at in known_at has (Slots row) here early

types_known : {n : ℕ} (less : n < row_count) (s : System) (row : ℕ) (k : Known) (h : Shown) → row_at n ≡ Types s (suc row) → Has k n h → HasRow k h (Types s row)
types_known less s row k h at has = let (here, early) = earlier_types less s row at in known_at has (Types s row) here early

-- a system's first line of types
abbrev pub is_first : HeaderRow → Bool
is_first (Types s zero) = true
is_first other = false

-- apart from first lines of types and optional rows, what is known says it
pub plain_present : {n : ℕ} (less : n < row_count) (r : HeaderRow) → row_at n ≡ r → is_first r ≡ false → is_optional r ≡ false → (k : Known) (line : List ℕ) (h : Shown) → Has k n h → has_line h r ≡ known_line k line r
plain_present less (Types s (suc row)) at plain fixed k line h has = ap (λ m. nat_lt (suc row) (type_rows m)) (sym (types_known less s row k h at has).number)
plain_present {n} less (Shift s) at plain fixed k line h has = let e = place_at n (Shift s) less at in planned_known n (omega (arith, e)) s k h has
plain_present {n} less (Slots zero) at plain fixed k line h has = planned_known n (far_slots n 0 (place_at n (Slots 0) less at)) Glonass k h has
plain_present less (Slots (suc row)) at plain fixed k line h has = ap (λ m. nat_lt (suc row) (slot_rows m)) (sym (slots_known less row k h at has).number)
plain_present {n} less Biases at plain fixed k line h has = let e = place_at n Biases less at in planned_known n (omega (arith, e)) Glonass k h has
plain_present less other at plain fixed k line h has = grind (arith, common_steps, not-false)

-- ---- which line comes next

-- a row that each header has
abbrev is_always : HeaderRow → Bool
is_always (Texts row) = is_required row
is_always Version = true
is_always Position = true
is_always Delta = true
is_always StrengthUnit = true
is_always First = true
is_always End = true
is_always other = false

always_there : (h : Shown) (r : HeaderRow) → is_always r ≡ true → has_line h r ≡ true
always_there h r e = grind (arith, common_steps)

-- up to the first that each header has, these rows pass a test
abbrev all_up_to : (HeaderRow → Bool) → List HeaderRow → Bool
all_up_to fails [] = false
all_up_to fails (r ∷ rows) = fails r && (is_always r || all_up_to fails rows)

one_fails : (h : Shown) (test : List ℕ → Bool) (r : HeaderRow) (rest left : List (List ℕ)) (line : List ℕ) → test (row_line h r) ≡ false → (has_line h r ≡ false → rest ≡ line ∷ left → test line ≡ false)
    → (b : Bool) → has_line h r ≡ b → row_lines h r ++ rest ≡ line ∷ left → test line ≡ false
one_fails h test r rest left line own more b has same = grind (arith, common_steps, cons_parts, rows_when)

pub left_over : (b c : Bool) → (b || c) ≡ true → (b ≡ true → ⊥) → c ≡ true
left_over b c e no_b = grind arith

-- no line of those rows passes a test of lines, so the line that comes next doesn't
next_fails : (h : Shown) (test : List ℕ → Bool) (fails : HeaderRow → Bool) → ((r : HeaderRow) → fails r ≡ true → test (row_line h r) ≡ false) → (rows : List HeaderRow) (others left : List (List ℕ)) (line : List ℕ)
    → all_up_to fails rows ≡ true → flat_map (row_lines h) rows ++ others ≡ line ∷ left → test line ≡ false
next_fails h test fails law [] others left line e same = cc
next_fails h test fails law (r ∷ rows) others left line e same =
    let two = both (fails r) (is_always r || all_up_to fails rows) e in
    one_fails h test r (flat_map (row_lines h) rows ++ others) left line (law r two.0)
    (λ lacks. next_fails h test fails law rows others left line (left_over (is_always r) (all_up_to fails rows) two.1 (λ e. let there = always_there h r e in cc)))
    (has_line h r) refl (sym (append_assoc (row_lines h r) (flat_map (row_lines h) rows) others) ∙ same)

-- ---- the first byte

-- the first byte of a line of types, or of the unit's
abbrev byte_of : HeaderRow → ℕ
byte_of (Types s zero) = letter s
byte_of (Types s (suc row)) = 32
byte_of other = 68

abbrev other_byte : ℕ → HeaderRow → Bool
other_byte byte (Types s row) = not (byte_of (Types s row) == byte)
other_byte byte StrengthUnit = not (68 == byte)
other_byte byte r = false

first_byte : (content label : List ℕ) (b byte : ℕ) (rest : List ℕ) → content ≡ b ∷ rest → begins_with byte (header_line content label) ≡ (b == byte)
first_byte content label b byte rest e = ap (begins_with byte) ((content_first content label).1 ∙ ap (λ c. c ++ (content_first content label).0) e)

unit_byte : (h : Shown) (byte : ℕ) → begins_with byte (row_line h StrengthUnit) ≡ (68 == byte)
unfolding row_line
unit_byte h byte = first_byte (codes "DBHZ") (row_label StrengthUnit) 68 byte _ refl

pub types_byte : (h : Shown) (s : System) (row byte : ℕ) → begins_with byte (row_line h (Types s row)) ≡ (byte_of (Types s row) == byte)
unfolding row_line
types_byte h s zero byte = first_byte _ (row_label (Types s 0)) (letter s) byte _ refl
types_byte h s (suc row) byte = first_byte _ (row_label (Types s row)) 32 byte _ refl

byte_law : (h : Shown) (byte : ℕ) (r : HeaderRow) → other_byte byte r ≡ true → begins_with byte (row_line h r) ≡ false
byte_law h byte r e = grind (arith, common_steps, types_byte, not-true, unit_byte)

-- no line of the rows after a system's first line of types begins with its letter, up to the unit's
after_types : (n : ℕ) (s : System) → n < row_count → row_at n ≡ Types s 0 → all_up_to (other_byte (letter s)) (drop (suc n) all_rows) ≡ true
after_types n s less at = grind (arith, common_steps, place_at n (Types s 0) less at, each_system)

-- ---- the label

abbrev label_end : List ℕ → List ℕ
label_end label = left label_columns label ++ 10 ∷ []

label_shown : (a content label : List ℕ) → length a ≤ label_columns → length label ≤ label_columns → has_label a (header_line content label) ≡ bytes_eq (label_end a) (label_end label)
unfolding header_line
label_shown a content label short fits = grind (arith, common_steps, length-left, length-append)

-- a line of types has their label
pub types_labelled : (system : System) (all : List ℕ) (row : ℕ) → is_of_types (types_with system (length all) all row) ≡ true
types_labelled system all row = label_shown (row_label (Types system row)) _ (row_label (Types system row)) (lit≤ tt) (lit≤ tt)

short_row : (r : HeaderRow) → length (row_label r) ≤ label_columns
short_row r = grind (arith, common_steps, at_most, each_field, lit≤)

-- what a row's line shows of a label
row_shown : (h : Shown) (a : List ℕ) (r : HeaderRow) → length a ≤ label_columns → has_label a (row_line h r) ≡ bytes_eq (label_end a) (label_end (row_label r))
unfolding row_line
row_shown h a r short = label_shown a (row_content h r) (row_label r) short (short_row r)

abbrev other_label : HeaderRow → HeaderRow → Bool
other_label row r = not (bytes_eq (label_end (row_label row)) (label_end (row_label r)))

label_law : (h : Shown) (row r : HeaderRow) → other_label row r ≡ true → has_label (row_label row) (row_line h r) ≡ false
label_law h row r e = row_shown h (row_label row) r (short_row row) ∙ not-true (bytes_eq (label_end (row_label row)) (label_end (row_label r))) e

-- no line of the rows after an optional row has its label, up to one that each header has
abbrev after_ok : HeaderRow → Bool
after_ok r = not (is_optional r) || all_up_to (other_label r) (drop (suc (row_place r)) all_rows)

after_row : (r : HeaderRow) → after_ok r ≡ true
after_row r = grind (arith, common_steps, each_field)

-- ---- values of optional rows

same_value : (k : Known) (h : Shown) (r : HeaderRow) → HasRow k h r → is_given h.texts h.interval r ≡ is_given k.shown.texts k.shown.interval r
same_value k h r same = grind (arith, common_steps, same_some, is_some)

module _ {n : ℕ} (less : n < row_count) {k : Known} {line : List ℕ} {h : Shown} {others left : List (List ℕ)} (on : GoesOn k n h others (line ∷ left)) where
  pub shows_next : has_line h (row_at n) ≡ true → row_line h (row_at n) ≡ line
  shows_next has = grind (arith, common_steps, line_next, cons_parts)

  pub rest_next : has_line h (row_at n) ≡ true → lines_after h (suc n) ++ others ≡ left
  rest_next has = grind (arith, common_steps, line_next, cons_parts)

  rest_skipped : has_line h (row_at n) ≡ false → lines_after h (suc n) ++ others ≡ line ∷ left
  rest_skipped lacks = sym (ap (λ l. l ++ others) (line_none h n less lacks)) ∙ on.rest

  -- an optional row is there exactly if its label comes
  optional_there : (r : HeaderRow) → row_at n ≡ r → is_optional r ≡ true → has_line h r ≡ has_label (row_label r) line
  optional_there r at optional = by (has_line h r) refl where
    apart : all_up_to (other_label r) (drop (suc n) all_rows) ≡ true
    apart = subst (λ m. all_up_to (other_label r) (drop (suc m) all_rows) ≡ true) (sym (place_at n r less at)) (left_over (not (is_optional r)) _ (after_row r) (λ e. let f = not-true (is_optional r) e in cc))

    by : (b : Bool) → has_line h r ≡ b → has_line h r ≡ has_label (row_label r) line
    by true has = has ∙ sym (ap (has_label (row_label r)) (sym (sym (ap (row_line h) at) ∙ shows_next (ap (has_line h) at ∙ has))) ∙ row_shown h (row_label r) r (short_row r) ∙ (bytes_eq-Decides (label_end (row_label r)) (label_end (row_label r))).1 refl)
    by false lacks = lacks ∙ sym (next_fails h (has_label (row_label r)) (other_label r) (label_law h r) (drop (suc n) all_rows) others left line apart (rest_skipped (ap (has_line h) at ∙ lacks)))

  -- a line is that of the next row exactly if its first byte or its label says so, or what is known
  pub present : has_line h (row_at n) ≡ known_line k line (row_at n)
  present = by (row_at n) refl where
    by : (r : HeaderRow) → row_at n ≡ r → has_line h (row_at n) ≡ known_line k line (row_at n)
    by (Types s zero) at = ap (has_line h) at ∙ first (has_line h (Types s 0)) refl ∙ sym (ap (known_line k line) at) where
      first : (b : Bool) → has_line h (Types s 0) ≡ b → has_line h (Types s 0) ≡ begins_with (letter s) line
      first true has = has ∙ sym (sym (ap (begins_with (letter s)) (sym (ap (row_line h) at) ∙ shows_next (ap (has_line h) at ∙ has))) ∙ types_byte h s 0 (letter s) ∙ eq-eqb (letter s) (letter s) refl)
      first false lacks = lacks ∙ sym (next_fails h (begins_with (letter s)) (other_byte (letter s)) (byte_law h (letter s)) (drop (suc n) all_rows) others left line (after_types n s less at) (rest_skipped (ap (has_line h) at ∙ lacks)))
    by (Texts row) at = ap (has_line h) at ∙ (grind (arith, common_steps, optional_there (Texts row) at)) ∙ sym (ap (known_line k line) at)
    by Interval at = ap (has_line h) at ∙ optional_there Interval at refl ∙ sym (ap (known_line k line) at)
    by r at = ap (has_line h) at ∙ plain_present less r at refl refl k line h on.has ∙ sym (ap (known_line k line) at)

-- ---- a row without a line

-- all signals begin before a line of types that isn't there
all_begun : (row : ℕ) (count : ℕ) → nat_lt row (type_rows count) ≡ false → count ≤ signals_begun row
all_begun row count lacks = let more : type_rows count ≤ row = grind (arith, lacks, nat_tests) in omega (arith, more)

module _ (k : Known) (line : List ℕ) {n : ℕ} (less : n < row_count) (lacks : known_line k line (row_at n) ≡ false) (lists : AreListsAt k) (read : AreReadAt k n) (unread : AreUnread k n) where
  here_lacks : (r : HeaderRow) → row_at n ≡ r → known_line k line r ≡ false
  here_lacks r at = sym (ap (known_line k line) at) ∙ lacks

  blank_at : (r : HeaderRow) → row_at n ≡ r → IsRowUnread k r
  blank_at r at = let here = place_at n r less at in unread r (omega (arith, here))

  -- no items are left for a line of a list that isn't there
  no_types : (s : System) (row : ℕ) → row_at n ≡ Types s row → counted k s ≤ signals_begun row
  no_types s zero at = let none = (blank_at (Types s 0) at).1 refl in omega (arith, none)
  no_types s (suc row) at = all_begun (suc row) (counted k s) (here_lacks (Types s (suc row)) at)

  no_slots_left : (row : ℕ) → row_at n ≡ Slots row → k.slots ≤ slots_begun row
  no_slots_left row at = grind (arith, common_steps, blank_at, ltb-false, here_lacks)

  slots_same : (row : ℕ) → row_at n ≡ Slots row → (h : Shown) → IsShown h → Has k n h → HasRow k h (Slots row)
  slots_same zero at h is has =
      let unplanned = planned_known n (far_slots n 0 (place_at n (Slots 0) less at)) Glonass k h has ∙ here_lacks (Slots 0) at in
      let none : slots_of h.plan.channels ≡ [] = ap slots_of (is.plan.unplanned (nil_from_length (planned_of Glonass h.plan) (grind (arith, unplanned, nat_tests)))) ∙ no_slots in
      still_same slots_begun 0 (known_slots k) (slots_of h.plan.channels) (let left = no_slots_left 0 at in omega (arith, left, ap length none)) lists.slots_read (no_slots_left 0 at) refl
  slots_same (suc row) at h is has = let s = slots_known less row k h at has in still_same slots_begun (suc row) (known_slots k) (slots_of h.plan.channels) s.number lists.slots_read (no_slots_left (suc row) at) s.same

  types_same : (s : System) (row : ℕ) → row_at n ≡ Types s row → (h : Shown) → Has k n h → has_line h (Types s row) ≡ false → HasRow k h (Types s row)
  types_same s zero at h has none =
      let few = all_begun 0 (length (planned_of s h.plan)) none in
      let zero_count = (blank_at (Types s 0) at).1 refl in
      still_same signals_begun 0 (planned_of s k.shown.plan) (planned_of s h.plan) (omega (arith, few, zero_count)) (lists.read s) (no_types s 0 at) refl
  types_same s (suc row) at h has none = let t = types_known less s row k h at has in still_same signals_begun (suc row) (planned_of s k.shown.plan) (planned_of s h.plan) t.number (lists.read s) (no_types s (suc row) at) t.same

  -- so the items up to it were read
  row_skipped : (r : HeaderRow) → row_at n ≡ r → IsRowRead k r
  row_skipped (Types s zero) at = let left = no_types s 0 at in omega (arith, left)
  row_skipped (Types s (suc row)) at = let left = no_types s (suc row) at in let before = before_types less k s row at read in omega (arith, left, before)
  row_skipped (Slots (suc row)) at = let left = no_slots_left (suc row) at in let before = before_slots less k row at read in omega (arith, left, before)
  row_skipped r at = grind (arith, common_steps, no_slots_left)

  nothing_known : (r : HeaderRow) → row_at n ≡ r → (h : Shown) → IsShown h → Has k n h → has_line h r ≡ false → HasRow k h r
  nothing_known (Texts row) at h is has none = none_same h.texts k.shown.texts (fields_of row) (or_parts (is_required row) (has_text h.texts row) none).1 (blank_at (Texts row) at)
  nothing_known Interval at h is has none = grind (arith, blank_at Interval at)
  nothing_known (Slots row) at h is has none = slots_same row at h is has
  nothing_known (Types s row) at h is has none = types_same s row at h has none
  nothing_known r at h is has none = grind arith

  back : (h : Shown) → Has k (suc n) h → Has k n h
  back h has = record { rows = λ i l. has.rows i (omega (arith, l)) }

  none_there : (r : HeaderRow) → row_at n ≡ r → (h : Shown) → Has k (suc n) h → has_line h (row_at n) ≡ false
  none_there (Types s zero) at h has = ap (has_line h) at ∙ ap (λ m. nat_lt 0 (type_rows m)) (sym (subst (HasRow k h) at (has.rows n (omega arith))).number ∙ (blank_at (Types s 0) at).1 refl)
  none_there (Texts row) at h has =
      let same = same_value k h (Texts row) (subst (HasRow k h) at (has.rows n (omega arith))) in
      ap (has_line h) at ∙ ap₂ (λ a b. a || b) (or_parts (is_required row) (has_label (label_of row) line) (sym (ap (known_line k line) at) ∙ lacks)).0 (same ∙ blank_at (Texts row) at)
  none_there Interval at h has = ap (has_line h) at ∙ same_value k h Interval (subst (HasRow k h) at (has.rows n (omega arith))) ∙ blank_at Interval at
  none_there r at h has = ap (has_line h) at ∙ plain_present less r at refl refl k line h (back h has) ∙ sym (ap (known_line k line) at) ∙ lacks

  pub skipped : SameFrom k line n (suc n)
  skipped = record {
    goes = λ h others left on.
        let none = present less on ∙ lacks in
        record {
          is = on.is;
          has = record { rows = λ i l. equal_or (HasRow k h (row_at i)) i n (λ same. nothing_known (row_at i) (ap row_at (sym same)) h on.is on.has (ap (λ j. has_line h (row_at j)) same ∙ none)) (λ far. on.has.rows i (omega (arith, l, far))) };
          rest = rest_skipped less on none;
        };
    back = λ h is has. back h has;
    lines = λ h is has. before_next h n less ∙ ap (λ l. lines_before h n ++ l) (rows_when h (row_at n) false (none_there (row_at n) refl h has)) ∙ append-nil (lines_before h n);
    none = λ i low high. let e : i ≡ n = omega (arith, low, high) in ap (λ j. known_line k line (row_at j)) e ∙ lacks;
    read = λ i l. equal_or (IsRowRead k (row_at i)) i n (λ same. row_skipped (row_at i) (ap row_at (sym same))) (λ far. read i (omega (arith, l, far)));
    unread = λ q far. unread q (omega (arith, far));
    expected = grind (arith, less_or);
  }

pub same_on : (k : Known) (line : List ℕ) (a b c : ℕ) → SameFrom k line a b → SameFrom k line b c → SameFrom k line a c
same_on k line a b c s t = record {
  goes = λ h others left on. t.goes h others left (s.goes h others left on);
  back = λ h is has. s.back h is (t.back h is has);
  lines = λ h is has. t.lines h is has ∙ s.lines h is (t.back h is has);
  none = λ i low high. less_or (known_line k line (row_at i) ≡ false) i b (λ l. s.none i low l) (λ m. t.none i m high);
  read = t.read;
  unread = t.unread;
  expected = t.expected;
}

pub here : (k : Known) (line : List ℕ) (n : ℕ) → IsHeadAt k n → SameFrom k line n n
here k line n at = record { goes = λ h others left on. on; back = λ h is has. has; lines = λ h is has. refl; none = λ i low high. absurd (omega (arith, low, high)); read = at.read; unread = at.unread; expected = at.expected }

-- ---- a row with a line

-- a header has the line in a row exactly if it has what is known after it
abbrev pub Law : Known → ℕ → List ℕ → Known → Type 0
Law old n line new = (h : Shown) → IsShown h → (Has old n h × (row_lines h (row_at n) ≡ line ∷ [])) ↔ Has new (suc n) h

pub takes_row : (old new : Known) (line : List ℕ) {n : ℕ} → n < row_count → known_line old line (row_at n) ≡ true → Law old n line new → Takes old n line new (n + 1)
takes_row old new line {n} less has law = subst (λ m. Takes old n line new m) (sym (add-one n)) (record {
  goes = λ h others left on.
      let there = present less on ∙ has in
      record { is = on.is; has = (law h on.is).0 (on.has, rows_when h (row_at n) true there ∙ ap (λ l. l ∷ []) (shows_next less on there)); rest = rest_next less on there };
  back = λ h is a. ((law h is).1 a).0;
  lines = λ h is a. before_next h n less ∙ ap (λ l. lines_before h n ++ l) ((law h is).1 a).1;
})

pub takes_from : {old new : Known} {line : List ℕ} {a b c : ℕ} → SameFrom old line a b → Takes old b line new c → Takes old a line new c
takes_from {line = line} s t = record {
  goes = λ h others left on. t.goes h others left (s.goes h others left on);
  back = λ h is has. s.back h is (t.back h is has);
  lines = λ h is has. t.lines h is has ∙ ap (λ l. l ++ line ∷ []) (s.lines h is (t.back h is has));
}

pub none_from : {k : Known} {line : List ℕ} {a b : ℕ} → SameFrom k line a b → NoneGoesOn k b line → NoneGoesOn k a line
none_from s none h others left on = none h others left (s.goes h others left on)

pub none_at : {k : Known} {line : List ℕ} {n : ℕ} (r : HeaderRow) → n < row_count → known_line k line (row_at n) ≡ true → row_at n ≡ r → RefusesHeaderLine k r line → NoneGoesOn k n line
none_at {k} {line} {n} r less has at refuses h others left on =
    refuses h on.is (subst (λ m. Has k m h) (place_at n r less at) on.has) (sym (ap (has_line h) at) ∙ present less on ∙ has) (ap (row_line h) (sym at) ∙ shows_next less on (present less on ∙ has))

-- a row with what was read of its line has a line
line_there : {n : ℕ} (less : n < row_count) (r : HeaderRow) {line : List ℕ} {old new : Known} → row_at n ≡ r → known_line old line r ≡ true → IsHeaderLineRead r line old new → (h : Shown) → Has old n h → HasRow new h r → has_line h r ≡ true
line_there less r at has row_read h a own = grind (arith, common_steps, lt-ltb, same_value, plain_present)

pub row_law : {n : ℕ} {r : HeaderRow} {line : List ℕ} {old new : Known} → n < row_count → row_at n ≡ r → known_line old line (row_at n) ≡ true → IsHeaderLineRead r line old new → Law old n line new
row_law {n} {r} {line} {old} {new} less at has row_read h is = (to, from) where
  to : Has old n h × (row_lines h (row_at n) ≡ line ∷ []) → Has new (suc n) h
  to (a, e) = has_after less at row_read h a (by (has_line h r) refl) where
    by : (b : Bool) → has_line h r ≡ b → HasRow new h r
    by true there = (row_read.own h is (placed_at less at row_read h a) there).0 (cc (ap (λ q. row_line h q ∷ []) (sym at) ∙ sym (rows_when h (row_at n) true (ap (has_line h) at ∙ there)) ∙ e))
    by false lacks = let none : ◌≡◌ {A = List (List ℕ)} [] (line ∷ []) = sym (rows_when h (row_at n) false (ap (has_line h) at ∙ lacks)) ∙ e in cc

  from : Has new (suc n) h → Has old n h × (row_lines h (row_at n) ≡ line ∷ [])
  from a =
      let b = has_before less at row_read h a in
      let own : HasRow new h r = subst (HasRow new h) at (a.rows n (omega arith)) in
      let there = line_there less r at (sym (ap (known_line old line) at) ∙ has) row_read h b own in
      (b, rows_when h (row_at n) true (ap (has_line h) at ∙ there) ∙ ap (λ q. row_line h q ∷ []) at ∙ ap (λ l. l ∷ []) ((row_read.own h is (placed_at less at row_read h b) there).1 own))

before_last : (n : ℕ) (r : HeaderRow) → n < row_count → row_at n ≡ r → r ≢ End → n + 1 < row_count
before_last n r less is other = less_or (n + 1 < row_count) (n + 1) row_count (λ l. l) (λ m. let e : n ≡ row_place End = omega (arith, less, m) in absurd (other (sym is ∙ ap row_at e)))

-- ---- the result of a line

-- the line was taken; the next row is expected if some plan fits, and else no header goes on with the line
pub decided : {old new : Known} {from n : ℕ} {line : List ℕ} (r : HeaderRow) {result : Result Expected Refusal} → n < row_count → row_at n ≡ r → r ≢ End → Takes old from line new (n + 1) → AreValid new
    → AreListsAt new → AreReadAt new (suc n) → AreUnread new (suc n) → result ≡ expected_if (fits new (n + 1)) (n + 1) → TakesHeaderLine old from line new result
decided {old} {new} {from} {n} {line} r less at other takes valid lists read unread e = subst (TakesHeaderLine old from line new) (sym e) (by (fits new (n + 1)) refl) where
  next : suc n ≡ n + 1
  next = sym (add-one n)

  after : AreUnread new (n + 1)
  after = subst (AreUnread new) next unread

  by : (b : Bool) → fits new (n + 1) ≡ b → TakesHeaderLine old from line new (expected_if b (n + 1))
  by true fit = record { takes = takes; at = record { valid = valid; lists = lists; read = subst (AreReadAt new) next read; unread = after; fitting = λ l. fit; expected = before_last n r less at other } }
  by false lacks = λ h others left on. let b = takes.goes h others left on in let fit = has_fits new (n + 1) h (omega arith) after b.is b.has in cc
