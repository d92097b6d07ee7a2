-- A line whose columns are those in which its values are written.
use Rattle.rinex_file.proofs.Rows.Trimmed.{length-trimmed, cut_more, cut_enough}
use Rattle.rinex_file.proofs.Digits.Padded.{two_digits}
use Rattle.rinex_file.proofs.HeaderRows.Texts.{trimmed-blanks}
use Rattle.rinex_file.proofs.Names.{common_steps, arith, ◌≡◌, ◌≢◌, ◌∙◌, sym, ap, ap₂, ℕ, ◌+◌, ◌-◌, ◌*◌, ◌≤◌, ◌<◌, List, [], ◌∷◌, ◌++◌, length, take, drop, replicate, get_or, take-append-drop, Bool, flat_map, ◌||◌, IsTrue, ◌↔◌, not, nat_eq, list_any, take-add, drop-drop, take_all, take_more, length-drop, length-take-le, length_push, get_or-take, get_or_append_left, ne_eqb, flat_map-append, list_any-append, SignalValues, SatelliteRow, has_some_value, IsEnded, padded, field, signal_text, lli_byte, strength_byte, row_text, satellite_line, letter, number_of}
use Rattle.std.proofs.Math.Bool.{or-false}

-- ---- the columns of a signal

cut : (n : ℕ) (text : List ℕ) → text ≡ take n text ++ drop n text
cut n text = sym (take-append-drop n text)

four_parts : (text : List ℕ) → length text ≡ 64 → text ≡ take 16 text ++ (take 16 (drop 16 text) ++ (take 16 (drop 32 text) ++ take 16 (drop 48 text)))
four_parts text l =
    let last : length (drop 48 text) ≡ 16 = length-drop 48 text ∙ omega (arith, l) in
    cut 16 text
    ∙ ap (λ t. take 16 text ++ t) (cut 16 (drop 16 text) ∙ ap (λ t. take 16 (drop 16 text) ++ t) (drop-drop 16 16 text ∙ cut 16 (drop 32 text)
    ∙ ap (λ t. take 16 (drop 32 text) ++ t) (drop-drop 16 32 text ∙ sym (take_all 16 (drop 48 text) (omega (arith, last))))))

pub signal_is : (text : List ℕ) (e : SignalValues) → length text ≡ 64
    → take 16 text ≡ field e.c 32 (strength_byte e.s) → take 16 (drop 16 text) ≡ field e.l (lli_byte e.lli) (strength_byte e.s)
    → take 16 (drop 32 text) ≡ field e.d 32 32 → take 16 (drop 48 text) ≡ field e.s 32 32 → text ≡ signal_text e
unfolding signal_text
signal_is text e size c l d s = four_parts text size ∙ ap₂ (λ a b. a ++ b) c (ap₂ (λ a b. a ++ b) l (ap₂ (λ a b. a ++ b) d s))

-- one more signal
pub signals_more : (text : List ℕ) (i : ℕ) (es : List SignalValues) {new : List SignalValues} (e : SignalValues) → new ≡ es ++ e ∷ []
    → flat_map signal_text es ≡ take (64 * i) text → take 64 (drop (64 * i) text) ≡ signal_text e → flat_map signal_text new ≡ take (64 * (i + 1)) text
signals_more text i es e pushed before here =
    let next : 64 * i + 64 ≡ 64 * (i + 1) = omega arith in
    grind (arith, common_steps, flat_map-append, take-add)

pub some_more : (es new : List SignalValues) (e : SignalValues) (a b : Bool) → new ≡ es ++ e ∷ [] → a ≡ list_any has_some_value es → b ≡ has_some_value e
    → (a || b) ≡ list_any has_some_value new
some_more es new e a b pushed is here = ap₂ (λ s t. s || t) is here ∙ sym (ap (list_any has_some_value) pushed ∙ list_any-append has_some_value es (e ∷ []) ∙ ap (λ t. list_any has_some_value es || t) (or-false (has_some_value e)))

-- ---- the number of a satellite

pub number_shown : (t o : ℕ) → 48 ≤ t → t ≤ 57 → 48 ≤ o → o ≤ 57 → padded 2 ((t - 48) * 10 + (o - 48)) ≡ t ∷ o ∷ []
number_shown t o a b c d = grind (arith, two_digits)

pub digits_shown : (t o n : ℕ) → n < 100 → t ∷ o ∷ [] ≡ padded 2 n → (48 ≤ t) × (t ≤ 57) × (48 ≤ o) × (o ≤ 57)
digits_shown t o n h e = grind (arith, two_digits)

-- ---- the end of a line

ended : (line : List ℕ) → 2 ≤ length line → get_or line (length line - 1) 0 ≡ 10 → get_or line (length line - 2) 0 ≢ 32 → IsEnded line
ended line long feed other = grind (arith, common_steps, length-take-le, take_all, get_or-take, take_more, cut_enough)

-- a line that is ended has no blank before its line feed
blank_end : (line : List ℕ) → IsEnded line → get_or line (length line - 2) 0 ≡ 32 → ⊥
blank_end line (text, is, some, whole) blank = grind (arith, common_steps, length_push, get_or_append_left, cut_more, take_all, length-trimmed, length-take-le)

other_byte : (b : ℕ) → IsTrue (not (nat_eq b 32)) → b ≡ 32 → ⊥
other_byte b held e = grind arith

pub ends : (line : List ℕ) → 2 ≤ length line → get_or line (length line - 1) 0 ≡ 10 → IsTrue (not (nat_eq (get_or line (length line - 2) 0) 32)) ↔ IsEnded line
ends line long feed = (λ held. ended line long feed (other_byte _ held), λ is. ap not (ne_eqb (get_or line (length line - 2) 0) 32 (blank_end line is)))

-- ---- the line of a satellite

pub line_is : (v : SatelliteRow) (line text : List ℕ) (width : ℕ) → IsEnded line
    → ((t : List ℕ) → line ≡ t ++ 10 ∷ [] → text ≡ t ++ replicate (width - length t) 32) → text ≡ row_text (letter v.system) (number_of v.system v.row.satellite) v.row.signal_values → line ≡ satellite_line v
unfolding satellite_line
line_is v line text width h0 filled shown = grind (arith, trimmed-blanks)

-- letter, number and signals
pub text_is : (text : List ℕ) {letter : ℕ} (id : ℕ) (es : List SignalValues) → 3 ≤ length text → get_or text 0 0 ≡ letter → padded 2 id ≡ get_or text 1 0 ∷ get_or text 2 0 ∷ []
    → drop 3 text ≡ flat_map signal_text es → text ≡ row_text letter id es
text_is text id es long first number signals = grind arith
