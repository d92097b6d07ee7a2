-- The lines of a file value are lines, and none is longer than the largest line that is read.
use Rattle.rinex_file.proofs.Rows.Sizes.{small_value, length-value, strength_fits, few_numbers}
use Rattle.rinex_file.proofs.Rows.Trimmed.{filled, length-trimmed}
use Rattle.rinex_file.proofs.FewRows.{few_most, few_rows}
use Rattle.rinex_file.proofs.PlainTexts.{clean-fixed, IsPlain, plain-append, plain-padded, plain, plain-flat_map, plain-joined, also}
use Rattle.rinex_file.proofs.Reading.Epochs.{few_signals_of}
use Rattle.rinex_file.proofs.HeaderRows.Plain.{IsFileLine, as_line, of_80, whole_field, second_field, no_letter, IsShort, short_time, height, labelled, lines_of_header, position}
use Rattle.rinex_file.proofs.Names.{has-append, has-right, lacks-padded, length-right, length-padded, arith, lit≤, ◌≡◌, ◌∙◌, ap, refl, sym, subst, ℕ, ◌+◌, ◌*◌, ◌^◌, ◌<◌, ◌≤◌, ℤ, pos, false, Option, Some, None, IfSome, List, [], ◌∷◌, ◌++◌, length, replicate, decimal, get_or, append_assoc, ◌==◌, ◌||◌, map, flat_map, All, codes, AllByRecursion, or_parts, All-nil, All-head, All-tail, All-cons, All-append, All-map, satellites, System, StationValues, Civil, civil_of, trimmed, IsLine, event_line, stamped_lines, change_lines, file_lines, FitsColumns, AreSignalValues, IsRow, IsSatelliteRow, IsStamped, IsChange, AreChanges, IsFileValue, changed_by, planned_in, header_lines, position_line, height_line, epoch_line, field, lli_byte, strength_byte, signal_text, letter, row_text, satellite_line, joined, right, padded, fixed, has, SignalValues, Row, SatelliteRow, Stamped, FileValue, most_line, most_signals, number_of, lines_of_parts, shown_of, Position, Delta, position_content, height_content}

-- ---- epochs

line_feed_last : (ts : List (List ℕ)) → joined ts ++ 10 ∷ [] ≡ joined (ts ++ (10 ∷ []) ∷ [])
line_feed_last [] = refl
line_feed_last (t ∷ ts) = append_assoc t (joined ts) (10 ∷ []) ∙ ap (λ l. t ++ l) (line_feed_last ts)

line_of_fields : (ts : List (List ℕ)) → AllByRecursion (IsPlain 80) ts → length ts ≤ 15 → IsFileLine (joined (ts ++ (10 ∷ []) ∷ []))
line_of_fields ts are few = subst IsFileLine (line_feed_last ts) (as_line (length ts * 80) (joined ts) (plain-joined 80 ts are) (omega (arith, few)))

line_of_epoch : (t : Civil) (n : ℕ) → IsShort t → n < 2 ^ 64 → IsFileLine (epoch_line t n)
unfolding epoch_line
line_of_epoch t n is few =
    line_of_fields
    (codes "> " ∷ right 4 (decimal t.year) ∷ codes " " ∷ padded 2 t.month ∷ codes " " ∷ padded 2 t.day ∷ codes " " ∷ padded 2 t.hour ∷ codes " " ∷ padded 2 t.minute
    ∷ right 11 (fixed 7 (pos (t.millisecond * 10_000))) ∷ codes "  0" ∷ right 3 (decimal n) ∷ [])
    (also (plain 80 (codes "> ") refl (lit≤ tt)) (also (whole_field 4 t.year (lit≤ tt) (wide is.year)) (also blank (also (digits t.month is.month) (also blank (also (digits t.day is.day)
    (also blank (also (digits t.hour is.hour) (also blank (also (digits t.minute is.minute) (also (second_field 11 t.millisecond (lit≤ tt) is.millisecond)
    (also (plain 80 (codes "  0") refl (lit≤ tt)) (also (whole_field 3 n (lit≤ tt) few) tt))))))))))))) (lit≤ tt) where
      wide : {m : ℕ} → m < 2 ^ 32 → m < 2 ^ 64
      wide h = omega (arith, h)

      blank : IsPlain 80 (codes " ")
      blank = plain 80 (codes " ") refl (lit≤ tt)

      digits : (m : ℕ) → m < 2 ^ 32 → IsPlain 80 (padded 2 m)
      digits m h = of_80 22 (padded 2 m) (plain-padded 2 m (omega (arith, h))) (lit≤ tt)

-- ---- satellites

plain_value : (v : ℤ) → FitsColumns v → IsPlain 14 (right 14 (fixed 3 v))
plain_value v h = grind (arith, has-right, clean-fixed, small_value, length-right, length-value)

plain_field : (v : Option ℤ) (lost strength : ℕ) → IfSome v FitsColumns → (lost ≡ 10 → ⊥) → (strength ≡ 10 → ⊥) → IsPlain 16 (field v lost strength)
unfolding field
plain_field None lost strength h a b = record { clean = refl; short = lit≤ tt }
plain_field (Some v) lost strength h a b = plain-append 14 2 (right 14 (fixed 3 v)) (lost ∷ strength ∷ []) (plain_value v h) (grind arith)

mark_other : (m : ℕ) → m < 4 → lli_byte m ≡ 10 → ⊥
mark_other m h e = grind arith

strength_other : (s : Option ℤ) → strength_byte s ≡ 10 → ⊥
strength_other s e = grind arith

blank_other : ◌≡◌ {A = ℕ} 32 10 → ⊥
blank_other e = absurd (omega (arith, e))

plain_entry : (e : SignalValues) → AreSignalValues e → IsPlain 64 (signal_text e)
unfolding signal_text
plain_entry e h =
    let c = field e.c 32 (strength_byte e.s) in
    let l = field e.l (lli_byte e.lli) (strength_byte e.s) in
    let d = field e.d 32 32 in
    let s = field e.s 32 32 in
    plain-append 16 48 c (l ++ (d ++ s)) (plain_field e.c 32 (strength_byte e.s) h.c blank_other (strength_other e.s))
    (plain-append 16 32 l (d ++ s) (plain_field e.l (lli_byte e.lli) (strength_byte e.s) h.l (mark_other e.lli h.lli) (strength_other e.s))
    (plain-append 16 16 d s (plain_field e.d 32 32 h.d blank_other blank_other) (plain_field e.s 32 32 (strength_fits e.s h.s) blank_other blank_other)))

plain_trimmed : (n : ℕ) (text : List ℕ) → IsPlain n text → IsPlain n (trimmed text)
plain_trimmed n text is = grind (arith, filled, has-append, length-trimmed, or_parts, (filled text), (sym (has-append 10 (trimmed text) (replicate (filled text).0 32)) ∙ ap (has 10) (filled text).1 ∙ is.clean), (length-trimmed text))

plain_number : (n : ℕ) → n < 100 → IsPlain 2 (padded 2 n)
plain_number n h = grind (arith, length-padded, lacks-padded)

line_of_row : (letter number signals most : ℕ) (r : Row) → IsRow most signals r → (letter == 10) ≡ false → number < 100 → signals ≤ most_signals → IsFileLine (trimmed (row_text letter number r.signal_values) ++ 10 ∷ [])
line_of_row letter number signals most r is other small less =
    let columns = plain-append 2 (length r.signal_values * 64) (padded 2 number) (flat_map signal_text r.signal_values) (plain_number number small) (plain-flat_map 64 signal_text r.signal_values (λ k d h. plain_entry (get_or r.signal_values k d) (is.signal_values k d h))) in
    let all = plain-append 1 (2 + length r.signal_values * 64) (letter ∷ []) (padded 2 number ++ flat_map signal_text r.signal_values)
    (record { clean = ap (λ c. c || false) other; short = lit≤ tt }) columns in
    as_line (1 + (2 + length r.signal_values * 64)) (trimmed (row_text letter number r.signal_values)) (plain_trimmed (1 + (2 + length r.signal_values * 64)) (row_text letter number r.signal_values) all) (omega (arith, less))

line_of_seen : (signals : System → ℕ) (s : SatelliteRow) → IsSatelliteRow signals s → ((t : System) → signals t ≤ most_signals) → IsFileLine (satellite_line s)
unfolding satellite_line
line_of_seen signals s is few = line_of_row (letter s.system) (number_of s.system s.row.satellite) (signals s.system) (satellites s.system) s.row is.row (no_letter s.system) (few_numbers s.system s.row.satellite is.row.satellite.1) (few s.system)

-- ---- the whole

-- the lines of an event
lines_of_change : (v : StationValues) (c : Option StationValues) → IsChange v c → All IsFileLine (change_lines c)
unfolding event_line
lines_of_change v None is = All-nil IsFileLine
lines_of_change v (Some w) is =
    All-cons IsFileLine event_line (position_line w ∷ height_line w.height ∷ []) (as_line 35 (codes ">" ++ (replicate 30 32 ++ codes "4  2")) (plain 35 _ refl (lit≤ tt)) (lit≤ tt))
    (All-cons IsFileLine (position_line w) (height_line w.height ∷ []) (labelled Position (position_content w) (position w is.0))
    (All-cons IsFileLine (height_line w.height) [] (labelled Delta (height_content w.height) (height w is.0)) (All-nil IsFileLine)))

lines_of_stamped : (signals : System → ℕ) (v : StationValues) (e : Stamped) → IsStamped signals e → IsChange v e.change → ((t : System) → signals t ≤ most_signals) → All IsFileLine (stamped_lines e)
lines_of_stamped signals v e is change few =
    let rows = few_rows signals e.rows is.rows in
    let count : length e.rows < 2 ^ 64 = omega (arith, rows, few_most signals) in
    All-append IsFileLine (change_lines e.change) (epoch_line (civil_of e.time) (length e.rows) ∷ map satellite_line e.rows) (lines_of_change v e.change change)
    (All-cons IsFileLine (epoch_line (civil_of e.time) (length e.rows)) (map satellite_line e.rows) (line_of_epoch (civil_of e.time) (length e.rows) (short_time e.time is.time) count)
    (All-map IsFileLine satellite_line e.rows (λ k d h. line_of_seen signals (get_or e.rows k d) (is.rows.each k d h) few)))

lines_of_epochs : (signals : System → ℕ) (v : StationValues) (es : List Stamped) → All (IsStamped signals) es → AreChanges v es → ((t : System) → signals t ≤ most_signals) → All IsFileLine (flat_map stamped_lines es)
lines_of_epochs signals v [] are changes few = All-nil IsFileLine
lines_of_epochs signals v (e ∷ es) are changes few =
    All-append IsFileLine (stamped_lines e) (flat_map stamped_lines es) (lines_of_stamped signals v e (All-head (IsStamped signals) e es are) changes.0 few)
    (lines_of_epochs signals (changed_by v e.change) es (All-tail (IsStamped signals) e es are) changes.1 few)

file_lines_are : (v : FileValue) (es : List Stamped) → IsFileValue v → All (IsStamped (planned_in v.plan)) es → AreChanges v.values es → All IsFileLine (lines_of_parts (shown_of v 0) es)
file_lines_are v [] is are changes = All-nil IsFileLine
file_lines_are v (e ∷ es) is are changes =
    let first = All-head (IsStamped (planned_in v.plan)) e es are in
    let h = shown_of v e.time in
    All-append IsFileLine (header_lines h) (flat_map stamped_lines (e ∷ es)) (lines_of_header h (record { texts = is.texts; interval = is.interval; plan = is.plan; values = is.values; first = first.time }))
    (lines_of_epochs (planned_in v.plan) v.values (e ∷ es) are changes (few_signals_of v.plan is.plan))

all_are : (v : FileValue) → IsFileValue v → All IsFileLine (file_lines v)
all_are v is = file_lines_are v v.epochs is is.epochs is.changes

pub lines_are_lines : (v : FileValue) → IsFileValue v → All IsLine (file_lines v)
lines_are_lines v is = λ k d h. (all_are v is k d h).line

pub lines_are_short : (v : FileValue) → IsFileValue v → All (λ l. length l ≤ most_line) (file_lines v)
lines_are_short v is = λ k d h. (all_are v is k d h).short
