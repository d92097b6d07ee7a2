-- The message of a view is the one that `decode` returns.
use Rattle.rtcm_msg.proofs.Names.{ℕ, ◌≡◌, ◌+◌, ◌*◌, ◌^◌, ◌<◌, ◌≤◌, Bool, List, length, slice_index, Result, Ok, Err, refl, sym, ap, subst, ◌∙◌, arith, replicate, count_ones, System, bits_of, Cursor, MsgFault, MsmHeader, Form, cursor_at, total_width, columns_at, EachBelow, MasksValue, IsHeader, AreMasks, header_at, masks_at, msm_at, LastBits, AreLast, rows_at, row_at, end_of_rows, Data, satellite_widths, cell_widths, satellite_rows, cell_rows, IsMsm, msm_of_parts, formed_at, AreWithin, AreDataOf, longest_message, length-bits_of}
use Rattle.rtcm_msg.specs.declared.message.Message.TheVariants as messages
use Rattle.rtcm_msg.proofs.ColumnSteps.{columns_fit}
use Rattle.rtcm_msg.proofs.RowLaws.{Ends, rows_end, rows_count, end_is, row_is}

-- ---- reading in parts

pub msm_good : (sw cw : List ℕ) (g : System) (c0 : Cursor) {c1 c2 c3 c4 : Cursor} {h : MsmHeader} {s : MasksValue} {xs ys : List ℕ} → header_at g c0 ≡ Ok (h, c1) → masks_at c1 ≡ Ok (s, c2)
    → columns_at sw (replicate (count_ones s.satellites) 0) c2 ≡ Ok (xs, c3) → columns_at cw (replicate (count_ones s.cells) 0) c3 ≡ Ok (ys, c4)
    → msm_at sw cw g c0 ≡ Ok (record { system = g; header = h; sets = s; satellites = xs; cells = ys }, c4)
unfolding msm_at
msm_good sw cw g c0 e f i j = rw (e, f, i, j) refl

pub no_header : (form : Form) (g : System) (c : Cursor) (x : MsgFault) → header_at g c ≡ Err x → formed_at form g c ≡ Err x
unfolding msm_at
no_header form g c x e = rw e refl

pub no_masks : (form : Form) (g : System) (c d : Cursor) (h : MsmHeader) (x : MsgFault) → header_at g c ≡ Ok (h, d) → masks_at d ≡ Err x → formed_at form g c ≡ Err x
unfolding msm_at
no_masks form g c d h x e f = rw (e, f) refl

pub msm_first : (sw cw : List ℕ) (g : System) (c0 : Cursor) {c1 c2 : Cursor} {h : MsmHeader} {s : MasksValue} {x : MsgFault} → header_at g c0 ≡ Ok (h, c1) → masks_at c1 ≡ Ok (s, c2)
    → columns_at sw (replicate (count_ones s.satellites) 0) c2 ≡ Err x → msm_at sw cw g c0 ≡ Err x
unfolding msm_at
msm_first sw cw g c0 e f i = rw (e, f, i) refl

pub msm_second : (sw cw : List ℕ) (g : System) (c0 : Cursor) {c1 c2 c3 : Cursor} {h : MsmHeader} {s : MasksValue} {xs : List ℕ} {x : MsgFault} → header_at g c0 ≡ Ok (h, c1) → masks_at c1 ≡ Ok (s, c2)
    → columns_at sw (replicate (count_ones s.satellites) 0) c2 ≡ Ok (xs, c3) → columns_at cw (replicate (count_ones s.cells) 0) c3 ≡ Err x → msm_at sw cw g c0 ≡ Err x
unfolding msm_at
msm_second sw cw g c0 e f i j = rw (e, f, i, j) refl

-- ---- the same from the positions of the data

pub ends : (bits : List Bool) (r : Result ℕ MsgFault) (read : Result (List ℕ × Cursor) MsgFault) (x : Result ℕ MsgFault) → x ≡ r → Ends bits r read → Ends bits x read
ends bits r read x e h = subst (λ (y : Result ℕ MsgFault). Ends bits y read) (sym e) h

-- The data of a number of items end at a bit.
abbrev pub data_read : (ws : List ℕ) (bits : List Bool) {n m : ℕ} (place : ℕ) {x : Result ℕ MsgFault} → n ≡ m → place ≤ length bits → x ≡ end_of_rows ws n (length bits) place → Ends bits x (columns_at ws (replicate m 0) (cursor_at bits place))
data_read ws bits {n} {m} place {x} same h e = ends bits (end_of_rows ws m (length bits) place) _ x (e ∙ ap (λ (k : ℕ). end_of_rows ws k (length bits) place) same) (rows_end ws bits m place h)

pub formed_short : (form : Form) (g : System) (c0 : Cursor) (x : MsgFault) → msm_at (satellite_widths form) (cell_widths form) g c0 ≡ Err x → formed_at form g c0 ≡ Err x
formed_short form g c0 x e = rw e refl

-- The position of the data of satellites, after the header and the masks.
pub record AfterMasks (g : System) (bytes : List ℕ) (h : MsmHeader) (s : MasksValue) (place : ℕ) : Type 0 where
  pub header : header_at g (cursor_at (bits_of bytes) 12) ≡ Ok (h, cursor_at (bits_of bytes) 73)
  pub masks : masks_at (cursor_at (bits_of bytes) 73) ≡ Ok (s, cursor_at (bits_of bytes) place)
  pub there : place ≤ 8 * length bytes

-- The widths of the fields and the numbers of satellites and cells, by the terms of the code.
pub record AreSizes (form : Form) (s : MasksValue) (sw cw : List ℕ) (n m : ℕ) : Type 0 where
  pub satellite_fields : sw ≡ satellite_widths form
  pub cell_fields : cw ≡ cell_widths form
  pub satellites : n ≡ s.satellites
  pub cells : m ≡ s.cells

-- The end of data with these widths, counted in bits.
counted : {x : Result ℕ MsgFault} {vs ws : List ℕ} (bytes : List ℕ) (n place : ℕ) → x ≡ end_of_rows vs n (8 * length bytes) place → vs ≡ ws → x ≡ end_of_rows ws n (length (bits_of bytes)) place
counted bytes n place e same = e ∙ rw (same, length-bits_of bytes) refl

pub first_short : (form : Form) (g : System) {bytes sw : List ℕ} {h : MsmHeader} {s : MasksValue} {n p : ℕ} {x : MsgFault} → AfterMasks g bytes h s p → sw ≡ satellite_widths form → n ≡ s.satellites
    → Err x ≡ end_of_rows sw (count_ones n) (8 * length bytes) p → formed_at form g (cursor_at (bits_of bytes) 12) ≡ Err x
first_short form g {bytes} {s} {n} {p} {x} head sws ns short =
    let bits = bits_of bytes in
    let ws = satellite_widths form in
    let there : p ≤ length bits = rw (length-bits_of bytes) head.there in
    formed_short form g (cursor_at bits 12) x (msm_first ws (cell_widths form) g (cursor_at bits 12) head.header head.masks
    (data_read ws bits p (ap count_ones ns) there (counted bytes (count_ones n) p short sws)))

pub second_short : {form : Form} (g : System) {bytes sw cw : List ℕ} {h : MsmHeader} {s : MasksValue} {n m p at : ℕ} {x : MsgFault} → AfterMasks g bytes h s p → AreSizes form s sw cw n m
    → Ok at ≡ end_of_rows sw (count_ones n) (8 * length bytes) p → at ≤ 8 * length bytes → Err x ≡ end_of_rows cw (count_ones m) (8 * length bytes) at → formed_at form g (cursor_at (bits_of bytes) 12) ≡ Err x
second_short {form} g {bytes} {s} {n} {m} {p} {at} {x} head sizes first room short =
    let bits = bits_of bytes in
    let ws = satellite_widths form in
    let vs = cell_widths form in
    let there : p ≤ length bits = rw (length-bits_of bytes) head.there in
    let there2 : at ≤ length bits = rw (length-bits_of bytes) room in
    formed_short form g (cursor_at bits 12) x (msm_second ws vs g (cursor_at bits 12) head.header head.masks
    (data_read ws bits p (ap count_ones sizes.satellites) there (counted bytes (count_ones n) p first sizes.satellite_fields))
    (data_read vs bits at (ap count_ones sizes.cells) there2 (counted bytes (count_ones m) at short sizes.cell_fields)))

pub rows_counted : (ws bytes : List ℕ) (n place : ℕ) → place + n * total_width ws ≤ 8 * length bytes → length (rows_at ws n (bits_of bytes) place) ≡ n
rows_counted ws bytes n place h = rows_count ws (bits_of bytes) n place (rw (length-bits_of bytes) h)

pub row_value : {vs ws : List ℕ} (bytes : List ℕ) (n place i : ℕ) → vs ≡ ws → place + n * total_width ws ≤ 8 * length bytes → i < n → row_at vs n (bits_of bytes) place i 0 ≡ slice_index (rows_at ws n (bits_of bytes) place) i
row_value {ws} bytes n place i same h there = ap (λ (us : List ℕ). row_at us n (bits_of bytes) place i 0) same ∙ sym (row_is ws (bits_of bytes) n place i (rw (length-bits_of bytes) h) there)

-- A message whose data are within the bits.
pub record Found (form : Form) (g : System) (bits : List Bool) (c0 : Cursor) (h : MsmHeader) (s : MasksValue) (n place m at : ℕ) : Type 0 where
  pub read : formed_at form g c0 ≡ Ok (messages.Msm (msm_of_parts form g h s (rows_at (satellite_widths form) n bits place) (rows_at (cell_widths form) m bits at)))
  pub value : IsMsm (msm_of_parts form g h s (rows_at (satellite_widths form) n bits place) (rows_at (cell_widths form) m bits at))
  pub order : place ≤ at
  pub satellites_there : place + n * total_width (satellite_widths form) ≤ length bits
  pub cells_there : at + m * total_width (cell_widths form) ≤ length bits

-- The message whose data end within the bits.
pub whole : {form : Form} {g : System} {bytes sw cw : List ℕ} {h : MsmHeader} {s : MasksValue} {n m p at end : ℕ} → AfterMasks g bytes h s p → AreSizes form s sw cw n m
    → Ok at ≡ end_of_rows sw (count_ones n) (8 * length bytes) p → at ≤ 8 * length bytes → Ok end ≡ end_of_rows cw (count_ones m) (8 * length bytes) at → end ≤ 8 * length bytes
    → IsHeader g h → AreMasks s → Found form g (bits_of bytes) (cursor_at (bits_of bytes) 12) h s (count_ones n) p (count_ones m) at
whole {form} {g} {bytes} {s} {n} {m} {p} {at} {end} head sizes first room second last is_header are_sets =
    let bits = bits_of bytes in
    let sw = satellite_widths form in
    let cw = cell_widths form in
    let there : p ≤ length bits = rw (length-bits_of bytes) head.there in
    let there2 : at ≤ length bits = rw (length-bits_of bytes) room in
    let there3 : end ≤ length bits = rw (length-bits_of bytes) last in
    let e = counted bytes (count_ones n) p first sizes.satellite_fields in
    let f = counted bytes (count_ones m) at second sizes.cell_fields in
    let same = ap count_ones sizes.satellites in
    let same2 = ap count_ones sizes.cells in
    let one = data_read sw bits p same there e in
    let two = data_read cw bits at same2 there2 f in
    let first_end : p + count_ones n * total_width sw ≤ length bits = rw (← end_is sw (count_ones n) (length bits) p at (sym e)) there2 in
    let second_end : at + count_ones m * total_width cw ≤ length bits = rw (← end_is cw (count_ones m) (length bits) at end (sym f)) there3 in
    let xs : rows_at sw (count_ones n) bits p ≡ rows_at sw (count_ones s.satellites) bits p = ap (λ (k : ℕ). rows_at sw k bits p) same in
    let ys : rows_at cw (count_ones m) bits at ≡ rows_at cw (count_ones s.cells) bits at = ap (λ (k : ℕ). rows_at cw k bits at) same2 in
    let good = msm_good sw cw g (cursor_at bits 12) head.header head.masks one two in
    record {
      read = rw (good, xs, ys) refl;
      value = record {
        header = is_header;
        sets = are_sets;
        satellite_count = rows_count sw bits (count_ones n) p first_end ∙ same;
        cell_count = rows_count cw bits (count_ones m) at second_end ∙ same2;
        satellites = subst (EachBelow (total_width sw)) (sym xs) (columns_fit sw (count_ones s.satellites) (cursor_at bits p) (rows_at sw (count_ones s.satellites) bits p, cursor_at bits at) one);
        cells = subst (EachBelow (total_width cw)) (sym ys) (columns_fit cw (count_ones s.cells) (cursor_at bits at) (rows_at cw (count_ones s.cells) bits at, cursor_at bits end) two);
      };
      order = omega (arith, end_is sw (count_ones n) (length bits) p at (sym e));
      satellites_there = first_end;
      cells_there = second_end;
    }

-- The bounds of the data, counted in bytes.
pub are_within : {form : Form} (bytes : List ℕ) {n place m : ℕ} {b : LastBits} → length bytes ≤ longest_message → 64 ≤ place → place ≤ b.place → place + n * total_width (satellite_widths form) ≤ length (bits_of bytes) → b.place + m * total_width (cell_widths form) ≤ length (bits_of bytes)
    → b.count ≡ m → AreLast (cell_widths form) b → AreWithin form (length bytes) n place m b
are_within {form} bytes {n} {place} {m} {b} small after order first second count last = grind (arith, length-bits_of)

-- The number of satellites and cells, in either form of the data.
pub satellites_counted : (form : Form) (n m : ℕ) (d : Data) → AreDataOf form n m d → length (satellite_rows form n d) ≡ n
satellites_counted form n m d h = grind (arith, rows_counted)

pub cells_counted : (form : Form) (n m : ℕ) (d : Data) → AreDataOf form n m d → length (cell_rows form m d) ≡ m
cells_counted form n m d h = grind (arith, rows_counted)

-- The index is less than the number of rows.
pub below : (i n : ℕ) (xs ys : List ℕ) → length xs ≡ n → xs ≡ ys → i < length ys → i < n
below i n xs ys count same h = omega (arith, ap length same)

pub fits : (x y : ℕ) (vs ws : List ℕ) → x ≡ y → vs ≡ ws → x < 2 ^ total_width ws → y < 2 ^ total_width vs
fits x y vs ws e f h = rw (f, ← e) h
