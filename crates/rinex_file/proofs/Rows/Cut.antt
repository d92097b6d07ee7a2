-- Columns of a text whose blanks at the end were cut.
use Rattle.rinex_file.proofs.OneReading.{signals_once}
use Rattle.rinex_file.proofs.Rows.Written.{line_is, text_is}
use Rattle.rinex_file.proofs.Names.{common_steps, arith, ◌≡◌, ◌∙◌, sym, ap, refl, ℕ, ◌+◌, ◌-◌, ◌*◌, ◌/◌, ◌%◌, ◌<◌, ◌≤◌, List, [], ◌∷◌, ◌++◌, length, take, drop, replicate, get_or, append-nil, length-append, inl, inr, flat_map, All, Bool, true, false, list_any, cases_lt, length-drop, length-take, length-take-le, length_push, take_all, drop_all, take-append-le, drop-append-le, take-replicate, drop-replicate, length-replicate, Any-from_list_any, list_any-from_Any, take-append-add, drop-append-add, take-append_seam, SignalValues, SatelliteRow, no_signal_values, AreSignalValues, has_some_value, AreEntries, IsEnded, filled_to, padded, field, signal_text, satellite_line, letter, ReadsExactly, some_if, number_of}

-- the blanks after a text that was written over the first ones
pub filled_over : (n : ℕ) (text blanks : List ℕ) → blanks ≡ replicate n 32 → text ++ drop (length text) blanks ≡ filled_to n text
filled_over n text blanks same = ap (λ l. text ++ l) (ap (drop (length text)) same ∙ drop-replicate (length text) n 32)

-- ---- the columns of a signal

-- after the end of the text
pub filled_blank : (n at : ℕ) (text : List ℕ) → length text ≤ at → filled_to n (take n (drop at text)) ≡ replicate n 32
filled_blank n at text end = grind (arith, drop_all, take_all)

-- within the text
pub filled_within : (n at : ℕ) (text : List ℕ) → at + n ≤ length text → filled_to n (take n (drop at text)) ≡ take n (drop at text)
filled_within n at text less = grind (arith, length-drop, append-nil, length-take-le)

-- at its end
pub filled_end : (n at : ℕ) (text : List ℕ) → length text ≤ at + n → filled_to n (take n (drop at text)) ≡ filled_to n (drop at text)
filled_end n at text less = let size = length-drop at text in ap (filled_to n) (take_all n (drop at text) (omega (arith, size, less)))

-- the columns of no values
blank_signal : replicate 64 32 ≡ signal_text no_signal_values
unfolding signal_text field
blank_signal = refl

pub blank_written : (at : ℕ) (text : List ℕ) → length text ≤ at → filled_to 64 (take 64 (drop at text)) ≡ signal_text no_signal_values
blank_written at text end = filled_blank 64 at text end ∙ blank_signal

-- the end begins at a multiple of the width of a signal
pub last_place : (at size : ℕ) → at % 64 ≡ 0 → at < size → size < at + 64 → 64 * (size / 64) ≡ at
last_place at size whole less more = omega (arith, whole, less, more)

-- the columns of a signal in the padded text
filled_part_in : (n at : ℕ) (text : List ℕ) → at + 64 ≤ n → at + 64 ≤ length text → take 64 (drop at (filled_to n text)) ≡ filled_to 64 (take 64 (drop at text))
filled_part_in n at text fits less =
    let size = length-drop at text in
    let blanks : List ℕ = replicate (n - length text) 32 in
    ap (take 64) (drop-append-le at text blanks (omega (arith, less)))
    ∙ take-append-le 64 (drop at text) blanks (omega (arith, size, less)) ∙ sym (filled_within 64 at text less)

filled_part_end : (n at k : ℕ) (text : List ℕ) → at + 64 ≤ n → length text ≤ n → at ≤ length text → length (drop at text) + k ≡ 64 → take 64 (drop at (filled_to n text)) ≡ filled_to 64 (take 64 (drop at text))
filled_part_end n at k text fits short less size =
    let all = length-drop at text in
    let rest = drop at text in
    let blanks : List ℕ = replicate (n - length text) 32 in
    ap (take 64) (drop-append-le at text blanks less)
    ∙ ap (λ (m : ℕ). take m (rest ++ blanks)) (sym size)
    ∙ take-append-add rest blanks k
    ∙ ap (λ l. rest ++ l) (take-replicate k (n - length text) 32 (omega (arith, fits, less, size, all)))
    ∙ ap (λ (m : ℕ). rest ++ replicate m 32) (omega (arith, size))
    ∙ sym (filled_end 64 at text (omega (arith, size, all)))

filled_part_after : (n at k : ℕ) (text : List ℕ) → at + 64 ≤ n → length text + k ≡ at → take 64 (drop at (filled_to n text)) ≡ filled_to 64 (take 64 (drop at text))
filled_part_after n at k text fits place =
    let blanks : List ℕ = replicate (n - length text) 32 in
    ap (λ (m : ℕ). take 64 (drop m (text ++ blanks))) (sym place)
    ∙ ap (take 64) (drop-append-add text blanks k ∙ drop-replicate k (n - length text) 32)
    ∙ take-replicate 64 (n - length text - k) 32 (omega (arith, fits, place))
    ∙ sym (filled_blank 64 at text (omega (arith, place)))

pub filled_part : (n at : ℕ) (text : List ℕ) → at + 64 ≤ n → length text ≤ n → take 64 (drop at (filled_to n text)) ≡ filled_to 64 (take 64 (drop at text))
filled_part n at text fits short =
    let all = length-drop at text in
    elim (cases_lt (length text) at) [
      | inl after ↦ filled_part_after n at (at - length text) text fits (omega (arith, after))
      | inr before ↦ elim (cases_lt (length text) (at + 64)) [
        | inl cut ↦ filled_part_end n at (64 - length (drop at text)) text fits short before (omega (arith, all, cut))
        | inr within ↦ filled_part_in n at text fits within
      ]
    ]

-- the padded text has the whole width
length-filled : (n : ℕ) (text : List ℕ) → length text ≤ n → length (filled_to n text) ≡ n
length-filled n text short = length-append text (replicate (n - length text) 32) ∙ ap (λ (k : ℕ). length text + k) (length-replicate (n - length text) 32) ∙ omega (arith, short)

pub length-signal : (at : ℕ) (text : List ℕ) → length (filled_to 64 (take 64 (drop at text))) ≡ 64
length-signal at text = grind (arith, common_steps, length-take 64 (drop at text), length-filled)

-- entries in the columns in which they are written
entries_read : (n : ℕ) (text : List ℕ) (values : List SignalValues) (some : Bool) → length values ≡ n → All AreSignalValues values → some ≡ list_any has_some_value values → text ≡ flat_map signal_text values
    → ReadsExactly (AreEntries n) (flat_map signal_text) text (some_if some values)
entries_read n text values true size each is shows = grind (arith, common_steps, Any-from_list_any, signals_once)
entries_read n text values false size each is shows = λ es are e.
    let same = signals_once es values are.each each (are.whole ∙ sym size) (sym e ∙ shows) in
    let never : false ≡ true = is ∙ ap (list_any has_some_value) (sym same) ∙ list_any-from_Any has_some_value es are.some in cc

-- all signals were read
pub all_read : {n i : ℕ} (text : List ℕ) (values : List SignalValues) {some : Bool} → length values ≡ n → n ≤ i → length text ≤ 64 * n → All AreSignalValues (take i values)
    → some ≡ list_any has_some_value (take i values) → flat_map signal_text (take i values) ≡ take (64 * i) (filled_to (64 * n) text)
    → ReadsExactly (AreEntries n) (flat_map signal_text) (filled_to (64 * n) text) (some_if some values)
all_read text values size end short each is shown = grind (arith, take_all, length-filled, entries_read)

-- ---- the line

pub cut_line_is : (v : SatelliteRow) {line text : List ℕ} (n : ℕ) → IsEnded line → text ≡ take (length line - 1) line → 3 ≤ length text
    → get_or text 0 0 ≡ letter v.system → padded 2 (number_of v.system v.row.satellite) ≡ get_or text 1 0 ∷ get_or text 2 0 ∷ []
    → filled_to n (drop 3 text) ≡ flat_map signal_text v.row.signal_values → line ≡ satellite_line v
cut_line_is v {line} {text} n ended cut long first number signals =
    line_is v line (filled_to (3 + n) text) (3 + n) ended (λ t is. grind (arith, common_steps, length_push, take-append_seam)) (grind (arith, text_is))
