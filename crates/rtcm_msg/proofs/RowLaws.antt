-- Data read from their position in the bits are those read in order.
use Rattle.rtcm_msg.proofs.Names.{common_steps, [], ℕ, zero, suc, ◌≡◌, ◌+◌, ◌*◌, ◌-◌, ◌%◌, ◌^◌, ◌<◌, ◌≤◌, nat_lt, Bool, true, false, List, ◌∷◌, length, drop, get_or, Result, Ok, Err, refl, sym, ap, ◌∙◌, arith, add-one, replicate, inl, inr, drop-cons, drop-length, mod-eq_of_lt, add-mod_right, cases_lt, length-replicate, length-drop, get_or-replicate, Cursor, MsgFault, Short, cursor_at, field_at, total_width, column_at, columns_at, numbers_in, rows_at, end_of_rows, row_at}
use Rattle.rtcm_msg.proofs.Binds.{ok_inj, number_short, ok_err}
use Rattle.rtcm_msg.proofs.FieldLaws.{number_there_at}

-- ---- the loops over the widths

pub end_step : (k : ℕ) (ws : List ℕ) (n len p : ℕ) → k < length ws → p + n * get_or ws k 0 ≤ len → end_of_rows (drop k ws) n len p ≡ end_of_rows (drop (k + 1) ws) n len (p + n * get_or ws k 0)
unfolding end_of_rows
end_step k ws n len p h there = let more : nat_lt len (p + n * get_or ws k 0) ≡ false = grind (arith, there) in rw (add-one k, drop-cons ws k 0 h, more) refl

pub end_short : (k : ℕ) (ws : List ℕ) (n len p : ℕ) → k < length ws → len < p + n * get_or ws k 0 → end_of_rows (drop k ws) n len p ≡ Err (Short (len - (len - p) % get_or ws k 0))
unfolding end_of_rows
end_short k ws n len p h few = let less : nat_lt len (p + n * get_or ws k 0) ≡ true = grind (arith, few) in rw (drop-cons ws k 0 h, less) refl

pub end_over : (k : ℕ) (ws : List ℕ) (n len p : ℕ) → k ≡ length ws → end_of_rows (drop k ws) n len p ≡ Ok p
unfolding end_of_rows
end_over k ws n len p h = rw (h, drop-length ws) refl

-- ---- one column

one_more : (place n w : ℕ) → place + w + n * w ≡ place + suc n * w
one_more place n w = omega arith

column_short : (w : ℕ) (ps : List ℕ) (bits : List Bool) (place : ℕ) → place ≤ length bits → length bits < place + length ps * w → column_at w ps (cursor_at bits place) ≡ Err (Short (length bits - (length bits - place) % w))
unfolding column_at
column_short w [] bits place h few = absurd (omega (arith, h, few))
column_short w (p ∷ ps) bits place h few = elim (cases_lt (length bits) (place + w)) [
  | inl short ↦
      let small : length bits - place < w = omega (arith, h, short) in
      let rest : (length bits - place) % w ≡ length bits - place = mod-eq_of_lt small in
      let here : length bits - (length bits - place) ≡ place = omega (arith, h) in
      rw (number_short w (cursor_at bits place) (omega (arith, length-drop place bits, small)), rest, here) refl
  | inr there ↦
      let down : length bits - place ≡ length bits - (place + w) + w = omega (arith, there) in
      let same : (length bits - place) % w ≡ (length bits - (place + w)) % w = ap (λ (k : ℕ). k % w) down ∙ add-mod_right (length bits - (place + w)) w in
      rw (number_there_at w bits place there, column_short w ps bits (place + w) there (rw (one_more place (length ps) w) few), same) refl
]

pub record ColumnRow (w : ℕ) (ps : List ℕ) (bits : List Bool) (place : ℕ) (x : List ℕ × Cursor) : Type 0 where
  pub after : x.1 ≡ cursor_at bits (place + length ps * w)
  pub len : length x.0 ≡ length ps
  pub row : (i : ℕ) → i < length ps → get_or x.0 i 0 ≡ get_or ps i 0 * 2 ^ w + field_at bits (place + i * w) w

column_row : (w : ℕ) (ps : List ℕ) (bits : List Bool) (place : ℕ) → place + length ps * w ≤ length bits → (x : List ℕ × Cursor) × (column_at w ps (cursor_at bits place) ≡ Ok x) × ColumnRow w ps bits place x
unfolding column_at
column_row w [] bits place h =
    let e : place ≡ place + 0 * w = omega arith in
    (([], cursor_at bits place), refl, record { after = ap (cursor_at bits) e; len = refl; row = λ i h. absurd (omega (arith, h)) })
column_row w (p ∷ ps) bits place h =
    let more : place + w + length ps * w ≤ length bits = rw (one_more place (length ps) w) h in
    let here = number_there_at w bits place (omega (arith, more)) in
    let rest = column_row w ps bits (place + w) more in
    (((p * 2 ^ w + field_at bits place w) ∷ rest.0.0, rest.0.1), rw (here, rest.1) refl, join p rest.0 rest.2)
  where
    join : (p : ℕ) (x : List ℕ × Cursor) → ColumnRow w ps bits (place + w) x → ColumnRow w (p ∷ ps) bits place ((p * 2 ^ w + field_at bits place w) ∷ x.0, x.1)
    join p x r = record { after = r.after ∙ ap (cursor_at bits) (one_more place (length ps) w); len = ap suc r.len; row = each }
      where
        each : (i : ℕ) → i < length (p ∷ ps) → get_or ((p * 2 ^ w + field_at bits place w) ∷ x.0) i 0 ≡ get_or (p ∷ ps) i 0 * 2 ^ w + field_at bits (place + i * w) w
        each zero h = ap (λ (k : ℕ). p * 2 ^ w + field_at bits k w) (omega arith)
        each (suc k) h = r.row k (omega (arith, h)) ∙ ap (λ (m : ℕ). get_or ps k 0 * 2 ^ w + field_at bits m w) (one_more place k w)

-- ---- all columns

two_more : (place n w t : ℕ) → place + n * w + n * t ≡ place + n * (w + t)
two_more place n w t = omega arith

-- The end of the data determines the result of reading them.
abbrev pub Ends : List Bool → Result ℕ MsgFault → Result (List ℕ × Cursor) MsgFault → Type 0
Ends bits (Ok e) read = read ≡ Ok (numbers_in read, cursor_at bits e)
Ends bits (Err f) read = read ≡ Err f

columns_end : (ws ps : List ℕ) (bits : List Bool) (n place : ℕ) → length ps ≡ n → place ≤ length bits → Ends bits (end_of_rows ws n (length bits) place) (columns_at ws ps (cursor_at bits place))
unfolding columns_at end_of_rows
columns_end [] ps bits n place len h = refl
columns_end (w ∷ ws) ps bits n place len h = elim (cases_lt (length bits) (place + n * w)) [
  | inl few ↦
      let less : nat_lt (length bits) (place + n * w) ≡ true = grind (arith, few) in
      rw (less, column_short w ps bits place h (rw len few)) refl
  | inr there ↦
      let more : nat_lt (length bits) (place + n * w) ≡ false = grind (arith, there) in
      let read = column_row w ps bits place (rw len there) in
      let after : read.0.1 ≡ cursor_at bits (place + n * w) = rw len at read.2.after in
      rw (more, read.1, after) (columns_end ws read.0.0 bits n (place + n * w) (read.2.len ∙ len) there)
]

pub rows_end : (ws : List ℕ) (bits : List Bool) (n place : ℕ) → place ≤ length bits → Ends bits (end_of_rows ws n (length bits) place) (columns_at ws (replicate n 0) (cursor_at bits place))
rows_end ws bits n place h = columns_end ws (replicate n 0) bits n place (length-replicate n 0) h

-- The end of the data.
pub end_is : (ws : List ℕ) (n len place end : ℕ) → end_of_rows ws n len place ≡ Ok end → end ≡ place + n * total_width ws
unfolding end_of_rows
end_is [] n len place end e = let same : place ≡ place + n * 0 = omega arith in sym (ok_inj place end (end_of_rows [] n len place) refl e) ∙ same
end_is (w ∷ ws) n len place end e = grind (arith, common_steps, cases_lt, ok_err, two_more, end_is ws n len (place + n * w) end)

-- Data that are within the bits end where the sum of the widths says.
pub end_there : (ws : List ℕ) (n len place : ℕ) → place + n * total_width ws ≤ len → end_of_rows ws n len place ≡ Ok (place + n * total_width ws)
unfolding end_of_rows
end_there [] n len place h = let same : place ≡ place + n * 0 = omega arith in ap Ok same
end_there (w ∷ ws) n len place h = grind (arith, common_steps, two_more, end_there ws n len (place + n * w))

columns_next : (w : ℕ) (ws ps xs : List ℕ) (c d : Cursor) → column_at w ps c ≡ Ok (xs, d) → columns_at (w ∷ ws) ps c ≡ columns_at ws xs d
unfolding columns_at
columns_next w ws ps xs c d e = rw e refl

-- The first column was read.
first_read : (w : ℕ) (ws ps : List ℕ) (bits : List Bool) (n place : ℕ) → length ps ≡ n → (x : (r : List ℕ × Cursor) × (column_at w ps (cursor_at bits place) ≡ Ok r) × ColumnRow w ps bits place r) → columns_at (w ∷ ws) ps (cursor_at bits place) ≡ columns_at ws x.0.0 (cursor_at bits (place + n * w))
first_read w ws ps bits n place len x = grind (arith, columns_next)

columns_row : (ws ps : List ℕ) (bits : List Bool) {n : ℕ} (place i : ℕ) → length ps ≡ n → place + n * total_width ws ≤ length bits → i < n → get_or (numbers_in (columns_at ws ps (cursor_at bits place))) i 0 ≡ row_at ws n bits place i (get_or ps i 0)
unfolding columns_at row_at
columns_row [] ps bits place i len h there = refl
columns_row (w ∷ ws) ps bits {n} place i len h there =
    let room : place + n * w + n * total_width ws ≤ length bits = rw (two_more place n w (total_width ws)) h in
    let read = column_row w ps bits place (rw len (omega (arith, room))) in
    let here = read.2.row i (rw len there) in
    grind (arith, first_read, (columns_row ws read.0.0 bits (place + n * w) i (read.2.len ∙ len) room there))

columns_length : (ws ps : List ℕ) (bits : List Bool) (n place : ℕ) → length ps ≡ n → place + n * total_width ws ≤ length bits → length (numbers_in (columns_at ws ps (cursor_at bits place))) ≡ n
unfolding columns_at
columns_length [] ps bits n place len h = len
columns_length (w ∷ ws) ps bits n place len h =
    let room : place + n * w + n * total_width ws ≤ length bits = rw (two_more place n w (total_width ws)) h in
    let read = column_row w ps bits place (rw len (omega (arith, room))) in
    ap (λ (r : Result (List ℕ × Cursor) MsgFault). length (numbers_in r)) (first_read w ws ps bits n place len read) ∙ columns_length ws read.0.0 bits n (place + n * w) (read.2.len ∙ len) room

-- The data of item i.
pub row_is : (ws : List ℕ) (bits : List Bool) (n place i : ℕ) → place + n * total_width ws ≤ length bits → i < n → get_or (rows_at ws n bits place) i 0 ≡ row_at ws n bits place i 0
row_is ws bits n place i h there = columns_row ws (replicate n 0) bits place i (length-replicate n 0) h there ∙ ap (row_at ws n bits place i) (get_or-replicate n i 0 0 there)

pub rows_count : (ws : List ℕ) (bits : List Bool) (n place : ℕ) → place + n * total_width ws ≤ length bits → length (rows_at ws n bits place) ≡ n
rows_count ws bits n place h = columns_length ws (replicate n 0) bits n place (length-replicate n 0) h
