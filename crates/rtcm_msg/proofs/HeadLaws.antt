-- Fields at known positions: the check that they are within the bits, and the result of reading them.
use Rattle.rtcm_msg.proofs.Names.{common_steps, ℕ, ◌≡◌, ◌+◌, ◌*◌, ◌<◌, ◌≤◌, Bool, true, false, List, [], ◌∷◌, ◌++◌, length, Result, Ok, Err, Option, Some, None, refl, sym, ap, ◌∙◌, arith, inl, inr, ◌⊎◌, mod-eq_of_lt, cases_lt, length-drop, System, bits_of, MsgFault, BadTime, TooManyCells, Short, Table, widths, ◌>>=◌, first_past, number_at, total_width, end_of_rows, time_table, header_table, mask_table, header_of, header_in, header_at, masks_at, is_time, pair_count, field_widths, parts_in, station_at, station_table, length-bits_of}
use Rattle.rtcm_msg.proofs.Binds.{number_short, ok_err}
use Rattle.rtcm_msg.proofs.Combine.{past_here}
use Rattle.rtcm_msg.proofs.FieldLaws.{contents_at, fields_at, cursor_at, field_at, number_there_at, ShortAt, fields_read, past_none}
use Rattle.rtcm_msg.proofs.StationLaws.{station_chain, station_widths, height_widths}
use Rattle.rtcm_msg.proofs.MsmLaws.{header_chain, header_rest_is, in_time, no_time_of, sets_chain, few_rest, many_rest}
use Rattle.rtcm_msg.proofs.MessageLaws.{station_end}

-- ---- the check

abbrev short_or_end : ℕ → Option ℕ → Result ℕ MsgFault
short_or_end end None = Ok end
short_or_end end (Some k) = Err (Short k)

end_once : (ws : List ℕ) (len place : ℕ) → place ≤ len → end_of_rows ws 1 len place ≡ short_or_end (place + total_width ws) (first_past len place ws)
unfolding end_of_rows first_past
end_once [] len place h = ap Ok (omega arith)
end_once (w ∷ ws) len place h = grind (arith, common_steps, cases_lt, mod-eq_of_lt, end_once ws len (place + w))

-- A failed check is the fault of the first field that does not end within the bits.
same_short : (ws : List ℕ) (bits : List Bool) (place : ℕ) (e f : MsgFault) → place ≤ length bits → Err e ≡ end_of_rows ws 1 (length bits) place → ShortAt bits place ws f → f ≡ e
same_short ws bits place e f h check s = cc (check, end_once ws (length bits) place h, ap (short_or_end (place + total_width ws)) s.past, s.is)

no_short : (ws : List ℕ) (bits : List Bool) (place : ℕ) (e : MsgFault) → place ≤ length bits → Err e ≡ end_of_rows ws 1 (length bits) place → first_past (length bits) place ws ≡ None → ⊥
no_short ws bits place e h check none = ok_err (place + total_width ws) e _ (ap (short_or_end (place + total_width ws)) none) (sym (end_once ws (length bits) place h) ∙ sym check)

fields_missing : (t : Table) (bits : List Bool) (place : ℕ) (e : MsgFault) → place ≤ length bits → Err e ≡ end_of_rows (widths t) 1 (length bits) place → fields_at t (cursor_at bits place) ≡ Err e
fields_missing t bits place e h check = elim (fields_read t bits place h) [
  | inl few ↦ few.1.1 ∙ ap Err (same_short (widths t) bits place e few.1.0 h check few.1.2)
  | inr there ↦ absurd (no_short (widths t) bits place e h check (past_none (widths t) (length bits) place there.0))
]

fields_whole : (t : Table) (bits : List Bool) (place : ℕ) → place + total_width (widths t) ≤ length bits → fields_at t (cursor_at bits place) ≡ Ok (contents_at t bits place, cursor_at bits (place + total_width (widths t)))
fields_whole t bits place h = grind (arith, fields_read)

number_missing : (w : ℕ) (bits : List Bool) (place : ℕ) (e : MsgFault) → place ≤ length bits → Err e ≡ end_of_rows (w ∷ []) 1 (length bits) place → number_at w (cursor_at bits place) ≡ Err e
number_missing w bits place e h check = elim (cases_lt (length bits) (place + w)) [
  | inl few ↦
      let first : ShortAt bits place (w ∷ []) (Short place) = record { first = place; is = refl; past = past_here w [] (length bits) place few } in
      number_short w (cursor_at bits place) (omega (arith, few, length-drop place bits)) ∙ ap Err (same_short (w ∷ []) bits place e (Short place) h check first)
  | inr there ↦ absurd (no_short (w ∷ []) bits place e h check (past_none (w ∷ []) (length bits) place (omega (arith, there))))
]

-- The fault of a check of some fields and the ones after them is that of the first ones, or of the others.
check_split : (vs ws : List ℕ) (len place : ℕ) (e : MsgFault) → place ≤ len → Err e ≡ end_of_rows (vs ++ ws) 1 len place
    → (Err e ≡ end_of_rows vs 1 len place) ⊎ ((place + total_width vs ≤ len) × (Err e ≡ end_of_rows ws 1 len (place + total_width vs)))
unfolding end_of_rows
check_split [] ws len place e h check = inr (omega (arith, h), check ∙ ap (λ (k : ℕ). end_of_rows ws 1 len k) (omega arith))
check_split (w ∷ vs) ws len place e h check = grind (arith, common_steps, cases_lt, check_split vs ws len (place + w) e)

-- ---- messages

field_widths_are : (has : Bool) → field_widths has ≡ station_widths ++ height_widths has
field_widths_are has = grind arith

module _ (bytes : List ℕ) where
  abbrev bits : List Bool
  bits = bits_of bytes

  -- The same check, counted in bits.
  checked : (ws : List ℕ) (place : ℕ) (e : MsgFault) → Err e ≡ end_of_rows ws 1 (8 * length bytes) place → Err e ≡ end_of_rows ws 1 (length bits) place
  checked ws place e check = check ∙ ap (λ (n : ℕ). end_of_rows ws 1 n place) (sym (length-bits_of bytes))

  within : (n : ℕ) → n ≤ 8 * length bytes → n ≤ length bits
  within n h = rw (length-bits_of bytes) h

  pub time_missing : (g : System) (e : MsgFault) → 12 ≤ 8 * length bytes → Err e ≡ end_of_rows (widths time_table) 1 (8 * length bytes) 12 → header_at g (cursor_at bits 12) ≡ Err e
  time_missing g e h check = header_chain g (cursor_at bits 12) ∙ rw (fields_missing time_table bits 12 e (within 12 h) (checked (widths time_table) 12 e check)) refl

  pub time_late : (g : System) → 54 ≤ 8 * length bytes → is_time g (field_at bits 24 30) ≡ false → header_at g (cursor_at bits 12) ≡ Err BadTime
  time_late g h late = header_chain g (cursor_at bits 12) ∙ rw (fields_whole time_table bits 12 (within 54 h), no_time_of g (field_at bits 24 30) (cursor_at bits 54) late) refl

  after_time : (g : System) → 54 ≤ 8 * length bytes → is_time g (field_at bits 24 30) ≡ true → header_at g (cursor_at bits 12) ≡ (fields_at header_table (cursor_at bits 54) >>= λ m. Ok (header_of (field_at bits 12 12) (field_at bits 24 30) m.0, m.1))
  after_time g h early = header_chain g (cursor_at bits 12) ∙ rw (fields_whole time_table bits 12 (within 54 h), in_time g (field_at bits 24 30) (cursor_at bits 54) early, header_rest_is (field_at bits 12 12) (field_at bits 24 30) (cursor_at bits 54)) refl

  header_missing : (g : System) (e : MsgFault) → 54 ≤ 8 * length bytes → is_time g (field_at bits 24 30) ≡ true → Err e ≡ end_of_rows (widths header_table) 1 (8 * length bytes) 54 → header_at g (cursor_at bits 12) ≡ Err e
  header_missing g e h early check = after_time g h early ∙ rw (fields_missing header_table bits 54 e (within 54 h) (checked (widths header_table) 54 e check)) refl

  pub header_whole : (g : System) → 73 ≤ 8 * length bytes → is_time g (field_at bits 24 30) ≡ true → header_at g (cursor_at bits 12) ≡ Ok (header_in bits (field_at bits 24 30), cursor_at bits 73)
  header_whole g h early = after_time g (omega (arith, h)) early ∙ rw (fields_whole header_table bits 54 (within 73 h)) refl

  masks_missing : (e : MsgFault) → 73 ≤ 8 * length bytes → Err e ≡ end_of_rows (widths mask_table) 1 (8 * length bytes) 73 → masks_at (cursor_at bits 73) ≡ Err e
  masks_missing e h check = sets_chain (cursor_at bits 73) ∙ rw (fields_missing mask_table bits 73 e (within 73 h) (checked (widths mask_table) 73 e check)) refl

  -- The header and the first two masks are checked at once.
  pub head_missing : (g : System) (e : MsgFault) → 54 ≤ 8 * length bytes → is_time g (field_at bits 24 30) ≡ true → Err e ≡ end_of_rows (widths header_table ++ widths mask_table) 1 (8 * length bytes) 54
      → (header_at g (cursor_at bits 12) ≡ Err e) ⊎ ((header_at g (cursor_at bits 12) ≡ Ok (header_in bits (field_at bits 24 30), cursor_at bits 73)) × (masks_at (cursor_at bits 73) ≡ Err e))
  head_missing g e h early check = elim (check_split (widths header_table) (widths mask_table) (8 * length bytes) 54 e h check) [
    | inl first ↦ inl (header_missing g e h early first)
    | inr second ↦ inr (header_whole g second.0 early, masks_missing e second.0 second.1)
  ]

  abbrev pairs : ℕ
  pairs = pair_count (field_at bits 73 64) (field_at bits 137 32)

  pub masks_many : 169 ≤ 8 * length bytes → 64 < pairs → masks_at (cursor_at bits 73) ≡ Err TooManyCells
  masks_many h many = sets_chain (cursor_at bits 73) ∙ rw (fields_whole mask_table bits 73 (within 169 h), many_rest (field_at bits 73 64) (field_at bits 137 32) (cursor_at bits 169) many) refl

  after_masks : 169 ≤ 8 * length bytes → pairs ≤ 64 → masks_at (cursor_at bits 73) ≡ (number_at pairs (cursor_at bits 169) >>= λ cells. Ok (record { satellites = field_at bits 73 64; signals = field_at bits 137 32; cells = cells.0 }, cells.1))
  after_masks h few = sets_chain (cursor_at bits 73) ∙ rw (fields_whole mask_table bits 73 (within 169 h), few_rest (field_at bits 73 64) (field_at bits 137 32) (cursor_at bits 169) few) refl

  pub cells_missing : (e : MsgFault) → 169 ≤ 8 * length bytes → pairs ≤ 64 → Err e ≡ end_of_rows (pairs ∷ []) 1 (8 * length bytes) 169 → masks_at (cursor_at bits 73) ≡ Err e
  cells_missing e h few check = after_masks h few ∙ rw (number_missing pairs bits 169 e (within 169 h) (checked (pairs ∷ []) 169 e check)) refl

  pub masks_whole : pairs ≤ 64 → 169 + pairs ≤ 8 * length bytes → masks_at (cursor_at bits 73) ≡ Ok (record { satellites = field_at bits 73 64; signals = field_at bits 137 32; cells = field_at bits 169 pairs }, cursor_at bits (169 + pairs))
  masks_whole few h = after_masks (omega (arith, h)) few ∙ rw (number_there_at pairs bits 169 (within (169 + pairs) h)) refl

  pub station_missing : (has : Bool) (e : MsgFault) → 12 ≤ 8 * length bytes → Err e ≡ end_of_rows (field_widths has) 1 (8 * length bytes) 12 → station_at has (cursor_at bits 12) ≡ Err e
  station_missing has e h check =
      let c : Err e ≡ end_of_rows (station_widths ++ height_widths has) 1 (length bits) 12 = checked (field_widths has) 12 e check ∙ ap (λ (ws : List ℕ). end_of_rows ws 1 (length bits) 12) (field_widths_are has) in
      elim (station_end bits has (within 12 h)) [
        | inl short ↦ short.1 ∙ ap Err (same_short (station_widths ++ height_widths has) bits 12 e short.0 (within 12 h) c short.2)
        | inr there ↦ absurd (no_short (station_widths ++ height_widths has) bits 12 e (within 12 h) c there.2)
      ]

  pub station_whole : (has : Bool) → 12 + total_width (field_widths has) ≤ 8 * length bytes → station_at has (cursor_at bits 12) ≡ Ok (parts_in has bits, cursor_at bits (12 + total_width (field_widths has)))
  station_whole false h = station_chain false (cursor_at bits 12) ∙ rw (fields_whole station_table bits 12 (within 152 h)) refl
  station_whole true h = station_chain true (cursor_at bits 12) ∙ rw (fields_whole station_table bits 12 (within 152 (omega (arith, h))), number_there_at 16 bits 152 (within 168 h)) refl
