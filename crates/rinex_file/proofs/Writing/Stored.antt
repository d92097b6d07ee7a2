-- The text of a file that is stored in memory.
use Rattle.rinex_file.proofs.Reading.Epochs.{few_signals_of}
use Rattle.rinex_file.proofs.Rows.Sizes.{few_numbers}
use Rattle.rinex_file.proofs.Writing.Sent.{joined-append}
use Rattle.rinex_file.proofs.Names.{common_steps, arith, ◌≡◌, ◌∙◌, sym, ap, ap₂, refl, ℕ, ◌+◌, ◌<◌, ◌≤◌, List, [], ◌∷◌, ◌++◌, length, take, get_or, append_assoc, append-nil, All, map, flat_map, take_all, take_more, flat_map-append, flat_map-map, civil_of, SatelliteRow, Stamped, FileValue, IsFileValue, header_lines, joined, epoch_line, satellite_line, shown_text, change_lines, stamped_lines, file_text, lines_of_parts, HaveRowsRoom, stamped_text, shown_of}

-- each line has room for its satellite
pub lines_have_room : (v : FileValue) → IsFileValue v → All HaveRowsRoom v.epochs
lines_have_room v is = grind (arith, few_numbers, few_signals_of)

joined_parts : (es : List Stamped) → joined (flat_map stamped_lines es) ≡ flat_map stamped_text es
unfolding stamped_text
joined_parts [] = refl
joined_parts (e ∷ es) = joined-append (stamped_lines e) (flat_map stamped_lines es) ∙ ap (λ l. joined (stamped_lines e) ++ l) (joined_parts es)

-- the text of one more was appended
pub one_more : {A : Type 0} (f : A → List ℕ) (xs : List A) (i : ℕ) {x : A} (front : List ℕ) {old new : List ℕ} → i < length xs → x ≡ get_or xs i x
    → old ≡ front ++ flat_map f (take i xs) → new ≡ old ++ f x → new ≡ front ++ flat_map f (take (i + 1) xs)
one_more f xs i front less at before after = grind (arith, common_steps, take_more, flat_map-append, append-nil, append_assoc)

-- change, epoch line and satellites were appended
pub epoch_whole : {v e : Stamped} {rows : List SatelliteRow} (old : List ℕ) {mid line text new : List ℕ} → v ≡ e → rows ≡ v.rows → mid ≡ old ++ joined (change_lines v.change) → line ≡ epoch_line (civil_of v.time) (length rows)
    → text ≡ mid ++ line → new ≡ text ++ flat_map satellite_line rows → new ≡ old ++ stamped_text e
unfolding stamped_text
epoch_whole {v} {rows} old {mid} is same changed begun more last =
    let own : joined (epoch_line (civil_of v.time) (length v.rows) ∷ map satellite_line v.rows) ≡ epoch_line (civil_of v.time) (length v.rows) ++ flat_map satellite_line v.rows =
    ap (λ l. epoch_line (civil_of v.time) (length v.rows) ++ l) (flat_map-map (λ l. l) satellite_line v.rows) in
    last ∙ ap (λ l. l ++ flat_map satellite_line rows) (more ∙ ap (λ l. mid ++ l) begun ∙ ap (λ l. l ++ epoch_line (civil_of v.time) (length rows)) changed)
    ∙ ap (λ (r : List SatelliteRow). ((old ++ joined (change_lines v.change)) ++ epoch_line (civil_of v.time) (length r)) ++ flat_map satellite_line r) same
    ∙ append_assoc (old ++ joined (change_lines v.change)) (epoch_line (civil_of v.time) (length v.rows)) (flat_map satellite_line v.rows)
    ∙ append_assoc old (joined (change_lines v.change)) (epoch_line (civil_of v.time) (length v.rows) ++ flat_map satellite_line v.rows)
    ∙ ap (λ l. old ++ l) (ap (λ l. joined (change_lines v.change) ++ l) (sym own) ∙ sym (joined-append (change_lines v.change) (epoch_line (civil_of v.time) (length v.rows) ∷ map satellite_line v.rows)))
    ∙ ap (λ (x : Stamped). old ++ joined (stamped_lines x)) is

parts : (v : FileValue) (first : Stamped) (es : List Stamped) → 0 < length es → first ≡ get_or es 0 first
    → shown_text (shown_of v first.time) ++ flat_map stamped_text es ≡ joined (lines_of_parts (shown_of v 0) es)
unfolding shown_text
parts v first [] some at = absurd (omega (arith, some))
parts v first (e ∷ es) some at =
    ap₂ (λ (f : Stamped) t. joined (header_lines (shown_of v f.time)) ++ t) at (sym (joined_parts (e ∷ es)))
    ∙ sym (joined-append (header_lines (shown_of v e.time)) (flat_map stamped_lines (e ∷ es)))

-- header and epochs were written
pub all_written : {v w : FileValue} {first : Stamped} {es : List Stamped} (old : List ℕ) {new : List ℕ} (n : ℕ) → v ≡ w → IsFileValue v → es ≡ v.epochs → first ≡ get_or es 0 first → length es ≤ n
    → new ≡ (old ++ shown_text (shown_of w first.time)) ++ flat_map stamped_text (take n es) → new ≡ old ++ file_text w
all_written old n same is those at all written = grind (arith, parts, take_all, append_assoc)
