-- The lines of a header are lines, and none is longer than the largest line that is read.
use Rattle.gnss_system.specs.declared.tables.ListedSignal.{ListedSignal as TableEntry}
use Rattle.gnss_obs.proofs.WalkLaws.{date_of_is, hours}
use Rattle.rinex_file.proofs.HeaderRows.Agree.{at_most_a_day}
use Rattle.rinex_file.proofs.Reading.Epochs.{few_signals_of}
use Rattle.rinex_file.proofs.HeaderRows.Texts.{each_field, few_columns}
use Rattle.rinex_file.proofs.HeaderRows.Slots.{slots_are, slots_room}
use Rattle.rinex_file.proofs.PlainTexts.{both, IsPlain, plain-wider, plain-append, plain-left, plain-right, plain-decimal, plain-fixed, plain-padded, plain, plain-flat_map, plain-joined, also, plain-text}
use Rattle.rinex_file.proofs.Names.{day_length, IsCivil, arith, lit≤, lit<, ◌≡◌, ap, refl, subst, ℕ, zero, suc, ◌+◌, ◌*◌, ◌/◌, ◌%◌, ◌^◌, ◌<◌, ◌≤◌, ℤ, pos, unsigned_abs, Bool, true, false, List, [], ◌∷◌, ◌++◌, length, take, drop, decimal, get_or, append_assoc, length-append, ◌==◌, ◌||◌, ◌&&◌, not, nat_le, flat_map, All, codes, slice_get, AllByRecursion, list_all, option_map_or, cond_both, ints, length-take, All-nil, All-head, All-tail, All-cons, All-append, All-map, All-take, All-drop, All-replicate, code_of, System, StationValues, Civil, civil_of, PlanValue, planned_of, HeaderField, HeaderRow, Version, Texts, Position, Delta, Types, First, Shift, IsLine, AreTexts, AreStationValues, IsTime, IsCoordinate, header_line, version_content, lengths, first_content, text_columns, texts_content, types_of, type_front, type_columns, codes_of, row_line, row_lines, has_line, all_rows, header_lines, position_content, height_content, line_with, row_content, row_label, letter, joined, left, right, fixed, has, HeaderLists, width_of, text_of, fields_of, label_of, front_of, common_steps, most_line, most_signals, systems_letter, padded, most_number, slot_count, nat_tests, AreSlots, SlotNumber, channel_text, slot_text, slots_columns, slots_front, slots_of, Slots, Shown, IsShown, Interval, IsInterval, IfSome, Option, Some, None, unwrap_or, interval_content, types_content, replicate}

-- ---- a line of a file

pub record IsFileLine (l : List ℕ) : Type 0 where
  pub line : IsLine l
  pub short : length l ≤ most_line

-- the line that a text without a line feed makes with one after it
pub as_line : (n : ℕ) (body : List ℕ) → IsPlain n body → n ≤ 1219 → IsFileLine (body ++ 10 ∷ [])
as_line n body is few = grind (arith, length-append)

-- ---- the content of a row, of at most 600 bytes

-- fields of up to 80 bytes each
plain_fields : (parts : List (List ℕ)) → AllByRecursion (IsPlain 80) parts → length parts ≤ 7 → IsPlain 600 (joined parts)
plain_fields parts are few = plain-wider (length parts * 80) 600 (joined parts) (omega (arith, few)) (plain-joined 80 parts are)

pub of_80 : (n : ℕ) (text : List ℕ) → IsPlain n text → n ≤ 80 → IsPlain 80 text
of_80 n text is h = plain-wider n 80 text h is

-- ---- texts

abbrev is_plain : ℕ → List ℕ → Bool
is_plain n text = not (has 10 text) && nat_le (length text) n

plain_text : (n : ℕ) (text : List ℕ) → is_plain n text ≡ true → IsPlain n text
plain_text n text h = grind (arith, both)

plain_texts : (x : HeaderLists) → AreTexts x → (fs : List HeaderField) → IsPlain (length fs * 120) (flat_map (text_columns x) fs)
plain_texts x are fs = plain-flat_map 120 (text_columns x) fs (λ k d h.
    let f = get_or fs k d in
    let few = few_columns f in
    plain-wider (60 + width_of f) 120 (text_columns x f) (omega (arith, few)) (plain-left (width_of f) 60 (text_of x f) (plain-text (width_of f) (text_of x f) (are.each f) few)))

-- what the table says of each row of texts
record IsPlainRow (r : HeaderField) : Type 0 where
  few : length (fields_of r) ≤ 3
  front : IsPlain 20 (front_of r)
  label : IsPlain 20 (label_of r)

plain_row : (r : HeaderField) → IsPlainRow r
plain_row r = grind (arith, common_steps, each_field, plain_text)

texts : (x : HeaderLists) → AreTexts x → (r : HeaderField) → IsPlain 600 (texts_content x r)
texts x are r =
    let row = plain_row r in
    let few = row.few in
    plain-wider (20 + length (fields_of r) * 120) 600 (texts_content x r) (omega (arith, few))
    (plain-append 20 (length (fields_of r) * 120) (front_of r) (flat_map (text_columns x) (fields_of r)) row.front (plain_texts x are (fields_of r)))

-- ---- numbers

pub whole_field : (width n : ℕ) → width ≤ 60 → n < 2 ^ 64 → IsPlain 80 (right width (decimal n))
whole_field width n few fits = of_80 (width + 20) (right width (decimal n)) (plain-right width 20 (decimal n) (plain-decimal n fits)) (omega (arith, few))

length_field : (z : ℤ) → unsigned_abs z < 2 ^ 64 → IsPlain 80 (right 14 (fixed 4 z))
length_field z fits = of_80 (14 + 46) (right 14 (fixed 4 z)) (plain-right 14 46 (fixed 4 z) (plain-fixed 4 z fits)) (lit≤ tt)

three_lengths : (a b c : ℤ) → unsigned_abs a < 2 ^ 64 → unsigned_abs b < 2 ^ 64 → unsigned_abs c < 2 ^ 64 → IsPlain 600 (lengths a b c)
three_lengths a b c p q r =
    plain_fields (right 14 (fixed 4 a) ∷ right 14 (fixed 4 b) ∷ right 14 (fixed 4 c) ∷ []) (length_field a p, (length_field b q, (length_field c r, tt))) (lit≤ tt)

coordinate : (z : ℤ) → IsCoordinate z → unsigned_abs z < 2 ^ 64
coordinate z is = grind (arith, ints)

-- ---- types

plain_code : TableEntry → Bool
plain_code e = is_plain 2 e.code

code_at : (es : List TableEntry) → list_all plain_code es ≡ true → (i : ℕ) → IsPlain 2 (option_map_or (λ e. e.code) (slice_get es i) [])
unfolding plain_code
code_at [] h i = record { clean = refl; short = omega arith }
code_at (e ∷ es) h zero = plain_text 2 e.code (both (plain_code e) (list_all plain_code es) h).0
code_at (e ∷ es) h (suc i) = code_at es (both (plain_code e) (list_all plain_code es) h).1 i

code_of_signal : (system : System) (i : ℕ) → IsPlain 2 (code_of (record { system = system; index = i }))
unfolding plain_code
code_of_signal v0 i = grind (arith, code_at)

types_are_plain : (cs : List (List ℕ)) → All (IsPlain 2) cs → All (IsPlain 3) (types_of cs)
types_are_plain [] are = All-nil (IsPlain 3)
types_are_plain (c ∷ cs) are = grind (arith, All-head, All-tail, All-cons, (All-head (IsPlain 2) c cs are), (types_are_plain cs (All-tail (IsPlain 2) c cs are)))

front_of_types : (letter types line : ℕ) → (letter == 10) ≡ false → types < 2 ^ 64 → IsPlain 26 (type_front letter types line)
front_of_types letter types zero other few =
    plain-append 3 23 (letter ∷ 32 ∷ 32 ∷ []) (right 3 (decimal types)) (record { clean = ap (λ c. c || false) other; short = lit≤ tt })
    (plain-right 3 20 (decimal types) (plain-decimal types few))
front_of_types letter types (suc line) other few = record { clean = refl; short = lit≤ tt }

plain_columns : (types : List (List ℕ)) → All (IsPlain 3) types → IsPlain 52 (flat_map (λ t. 32 ∷ t) (take 13 types))
plain_columns types are =
    plain-wider (length (take 13 types) * 4) 52 (flat_map (λ t. 32 ∷ t) (take 13 types)) (omega (arith, length-take 13 types))
    (plain-flat_map 4 (λ t. 32 ∷ t) (take 13 types) (λ k d h. plain-append 1 3 (32 ∷ []) (get_or (take 13 types) k d) (plain 1 (32 ∷ []) refl (lit≤ tt)) (All-take (IsPlain 3) 13 types are k d h)))

pub no_letter : (system : System) → (letter system == 10) ≡ false
no_letter system = grind arith

types : (system : System) (signals : List ℕ) (row : ℕ) → length signals ≤ most_signals → IsPlain 600 (types_content system (length signals) signals row)
types system signals row few =
    let codes = codes_of system signals in
    let are = types_are_plain codes (All-map (IsPlain 2) (λ index. code_of (record { system = system; index = index })) signals (λ k d h. code_of_signal system (get_or signals k d))) in
    plain-wider (26 + 52) 600 (types_content system (length signals) signals row) (lit≤ tt)
    (plain-append 26 52 (type_front (letter system) (4 * length signals) row) (type_columns (types_of codes) row) (front_of_types (letter system) (4 * length signals) row (no_letter system) (omega (arith, few)))
    (plain_columns (drop (13 * row) (types_of codes)) (All-drop (IsPlain 3) (13 * row) (types_of codes) are)))

-- ---- slots

plain_channel : (n : ℕ) → n ≤ most_number → IsPlain 2 (channel_text n)
plain_channel n few = grind (arith, nat_tests, lit≤)

plain_slot : (s : SlotNumber) → s.slot ≤ slot_count → s.number ≤ most_number → IsPlain 27 (slot_text s)
plain_slot s few number =
    plain-append 1 26 (82 ∷ []) (padded 2 s.slot ++ 32 ∷ (channel_text s.number ++ 32 ∷ [])) (plain 1 _ refl (lit≤ tt))
    (plain-append 22 4 (padded 2 s.slot) (32 ∷ (channel_text s.number ++ 32 ∷ [])) (plain-padded 2 s.slot (omega (arith, few))) (plain-append 1 3 (32 ∷ []) (channel_text s.number ++ 32 ∷ []) (plain 1 _ refl (lit≤ tt)) (plain-append 2 1 (channel_text s.number) (32 ∷ []) (plain_channel s.number number) (plain 1 _ refl (lit≤ tt)))))

plain_slots : (last : ℕ) (ss : List SlotNumber) → AreSlots last ss → All (λ s. IsPlain 27 (slot_text s)) ss
plain_slots last [] are = All-nil _
plain_slots last (s ∷ ss) are = let room = slots_room s.slot ss are.2 in All-cons (λ s. IsPlain 27 (slot_text s)) s ss (plain_slot s (omega (arith, room)) are.1) (plain_slots s.slot ss are.2)

plain_front : (count row : ℕ) → count < 2 ^ 64 → IsPlain 24 (slots_front count row)
plain_front count zero few = plain-append 23 1 (right 3 (decimal count)) (32 ∷ []) (plain-right 3 20 (decimal count) (plain-decimal count few)) (plain 1 _ refl (lit≤ tt))
plain_front count (suc row) few = record { clean = refl; short = lit≤ tt }

slots : (ss : List SlotNumber) (row : ℕ) → AreSlots 0 ss → IsPlain 600 (slots_columns (length ss) ss row)
slots ss row are =
    let room = slots_room 0 ss are in
    let here = take 8 (drop (8 * row) ss) in
    let each = All-take (λ s. IsPlain 27 (slot_text s)) 8 (drop (8 * row) ss) (All-drop (λ s. IsPlain 27 (slot_text s)) (8 * row) ss (plain_slots 0 ss are)) in
    plain-wider (24 + 216) 600 (slots_columns (length ss) ss row) (lit≤ tt)
    (plain-append 24 216 (slots_front (length ss) row) (flat_map slot_text here) (plain_front (length ss) row (omega (arith, room)))
    (plain-wider (length here * 27) 216 (flat_map slot_text here) (omega (arith, length-take 8 (drop (8 * row) ss))) (plain-flat_map 27 slot_text here each)))

-- ---- times

-- each part of a date and time of day fits 32 bits
pub record IsShort (t : Civil) : Type 0 where
  pub year : t.year < 2 ^ 32
  pub month : t.month < 2 ^ 32
  pub day : t.day < 2 ^ 32
  pub hour : t.hour < 2 ^ 32
  pub minute : t.minute < 2 ^ 32
  pub millisecond : t.millisecond < 2 ^ 32

-- the calendar ends with the year 9999
short_civil : (c : Civil) → IsCivil c → IsShort c
short_civil c is = grind (arith, common_steps)

pub short_time : (t : ℕ) → IsTime t → IsShort (civil_of t)
short_time t h = short_civil (civil_of t) (record {
  date = (date_of_is (t / day_length) (omega (arith, h))).0;
  hour = hours (t % day_length) (omega arith);
  minute = omega arith;
  millisecond = omega arith;
})

pub second_field : (width m : ℕ) → width ≤ 20 → m < 2 ^ 32 → IsPlain 80 (right width (fixed 7 (pos (m * 10_000))))
second_field width m few fits =
    of_80 (width + 49) (right width (fixed 7 (pos (m * 10_000)))) (plain-right width 49 (fixed 7 (pos (m * 10_000))) (plain-fixed 7 (pos (m * 10_000)) (omega (arith, fits)))) (omega (arith, few))

first : (t : Civil) → IsShort t → IsPlain 600 (first_content t)
first t is =
    plain_fields
    (right 6 (decimal t.year) ∷ right 6 (decimal t.month) ∷ right 6 (decimal t.day) ∷ right 6 (decimal t.hour) ∷ right 6 (decimal t.minute)
    ∷ right 13 (fixed 7 (pos (t.millisecond * 10_000))) ∷ codes "     GPS" ∷ [])
    (also (whole t.year is.year) (also (whole t.month is.month) (also (whole t.day is.day) (also (whole t.hour is.hour) (also (whole t.minute is.minute)
    (also (second_field 13 t.millisecond (lit≤ tt) is.millisecond) (plain 80 (codes "     GPS") refl (lit≤ tt), tt))))))) (lit≤ tt) where
      whole : (n : ℕ) → n < 2 ^ 32 → IsPlain 80 (right 6 (decimal n))
      whole n h = whole_field 6 n (lit≤ tt) (omega (arith, h))

-- ---- the other rows of the header

version : (p : PlanValue) → IsPlain 600 (version_content (systems_letter p))
version p =
    plain_fields (right 9 (fixed 2 (pos 305)) ∷ replicate 11 32 ∷ left 20 (codes "OBSERVATION DATA") ∷ (systems_letter p ∷ []) ∷ []) (
      of_80 (9 + 44) (right 9 (fixed 2 (pos 305))) (plain-right 9 44 (fixed 2 (pos 305)) (plain-fixed 2 (pos 305) (lit< tt))) (lit≤ tt),
      (record { clean = refl; short = lit≤ tt }, (record { clean = refl; short = lit≤ tt }, (grind (arith, common_steps, plain, lit≤, no_letter), tt))),
    )
    (lit≤ tt)

pub position : (v : StationValues) → AreStationValues v → IsPlain 600 (position_content v)
position v values = three_lengths v.x v.y v.z (coordinate v.x values.x) (coordinate v.y values.y) (coordinate v.z values.z)

pub height : (v : StationValues) → AreStationValues v → IsPlain 600 (height_content v.height)
height v values = three_lengths (pos v.height) (pos 0) (pos 0) (let few = values.height in omega (arith, few)) (lit< tt) (lit< tt)

interval_fits : (n : ℕ) → n < 2 ^ 32 → IsPlain 600 (interval_content n)
interval_fits n fits = plain_fields (right 10 (fixed 3 (pos n)) ∷ [])
    (of_80 (10 + 45) (right 10 (fixed 3 (pos n))) (plain-right 10 45 (fixed 3 (pos n)) (plain-fixed 3 (pos n) (omega (arith, fits)))) (lit≤ tt), tt) (lit≤ tt)

interval : (interval : Option ℕ) → IfSome interval IsInterval → IsPlain 600 (interval_content (unwrap_or interval 0))
interval None is = interval_fits 0 (lit< tt)
interval (Some n) is = let less = at_most_a_day n is in interval_fits n (omega (arith, less))

-- ---- rows

plain_label : (r : HeaderRow) → IsPlain 20 (row_label r)
plain_label r = grind (arith, plain_row, plain)

pub labelled : (r : HeaderRow) (content : List ℕ) → IsPlain 600 content → IsFileLine (line_with r content)
unfolding header_line
labelled r content is =
    subst IsFileLine (append_assoc (left 60 content) (left 20 (row_label r)) (10 ∷ []))
    (as_line ((600 + 60) + 40) (left 60 content ++ left 20 (row_label r)) (plain-append (600 + 60) 40 (left 60 content) (left 20 (row_label r)) (plain-left 60 600 content is) (plain-left 20 20 (row_label r) (plain_label r))) (lit≤ tt))

content_in : (h : Shown) → IsShown h → (r : HeaderRow) → IsPlain 600 (row_content h r)
content_in h is Version = version h.plan
content_in h is (Texts r) = texts h.texts is.texts r
content_in h is Position = position h.values is.values
content_in h is Delta = height h.values is.values
content_in h is (Types s row) = types s (planned_of s h.plan) row (few_signals_of h.plan is.plan s)
content_in h is Interval = interval h.interval is.interval
content_in h is First = first (civil_of h.first) (short_time h.first is.first)
content_in h is (Shift s) = plain 600 _ (ap (λ c. c || false) (no_letter s)) (lit≤ tt)
content_in h is (Slots row) = slots (slots_of h.plan.channels) row (slots_are h.plan.channels is.plan.channels)
content_in h is other = plain 600 _ refl (lit≤ tt)

line_in : (h : Shown) → IsShown h → (r : HeaderRow) → IsFileLine (row_line h r)
unfolding row_line
line_in h is r = labelled r (row_content h r) (content_in h is r)

lines_of_rows : (h : Shown) → ((r : HeaderRow) → IsFileLine (row_line h r)) → (rows : List HeaderRow) → All IsFileLine (flat_map (row_lines h) rows)
lines_of_rows h each [] = All-nil IsFileLine
lines_of_rows h each (r ∷ rows) =
    All-append IsFileLine (row_lines h r) (flat_map (row_lines h) rows)
    (cond_both (has_line h r) (row_line h r ∷ []) [] (All IsFileLine) (λ has. All-replicate IsFileLine 1 (row_line h r) (each r)) (λ none. All-nil IsFileLine)) (lines_of_rows h each rows)

pub lines_of_header : (h : Shown) → IsShown h → All IsFileLine (header_lines h)
unfolding header_lines
lines_of_header h is = lines_of_rows h (line_in h is) all_rows
