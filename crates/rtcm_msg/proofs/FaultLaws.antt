-- The result of reading bits: the value, or the fault.
use Rattle.rtcm_msg.proofs.Names.{ℕ, zero, suc, ◌≡◌, ◌+◌, ◌*◌, ◌^◌, ◌<◌, ◌≤◌, Bool, true, false, List, [], ◌∷◌, ◌++◌, length, Result, Ok, Err, None, refl, ap, ◌∙◌, arith, ◌⊎◌, inl, inr, replicate, count_ones, cases_lt, cases_Bool, length-replicate, length-drop, System, Cursor, MsgFault, BadTime, TooManyCells, Short, MsmHeader, number_at, ◌>>=◌, first_past, total_width, column_at, columns_at, repeated, time_table, header_table, mask_table, header_of, header_at, masks_at, msm_at, is_time, MsmValue, pair_count}
use Rattle.rtcm_msg.proofs.FieldLaws.{contents_at, fields_at, cursor_at, field_at, number_there_at, ShortAt, short_at_more, short_at_after, fields_read, past_none, past_through}
use Rattle.rtcm_msg.proofs.Binds.{number_short}
use Rattle.rtcm_msg.proofs.Combine.{past_here, past_next}
use Rattle.rtcm_msg.proofs.MsmLaws.{head_widths, tail_widths, mask_widths, header_chain, header_rest_is, in_time, no_time_of, sets_chain, few_rest, many_rest}

-- ---- columns

abbrev ColumnRead : ℕ → List ℕ → List Bool → ℕ → Type 0
ColumnRead w ps bits place =
    ((e : MsgFault) × (column_at w ps (cursor_at bits place) ≡ Err e) × ShortAt bits place (replicate (length ps) w) e)
    ⊎ ((ns : List ℕ) × (column_at w ps (cursor_at bits place) ≡ Ok (ns, cursor_at bits (place + w * length ps))) × (length ns ≡ length ps) × (place + w * length ps ≤ length bits))

one_more : (place w n : ℕ) → place + w + w * n ≡ place + w * suc n
one_more place w n = omega arith

column_read : (w : ℕ) (ps : List ℕ) (bits : List Bool) (place : ℕ) → place ≤ length bits → ColumnRead w ps bits place
unfolding column_at
column_read w [] bits place h = let e : place + w * 0 ≡ place = omega arith in inr ([], rw e refl, refl, rw e h)
column_read w (p ∷ ps) bits place h = elim (cases_lt (length bits) (place + w)) [
  | inl few ↦ inl (Short place, rw (number_short w (cursor_at bits place) (omega (arith, length-drop place bits))) refl, record { first = place; is = refl; past = past_here w (replicate (length ps) w) (length bits) place few })
  | inr there ↦
      let here = number_there_at w bits place there in
      elim (column_read w ps bits (place + w) there) [
        | inl rest ↦ inl (rest.0, rw (here, rest.1) refl, record { first = rest.2.first; is = rest.2.is; past = past_next w (replicate (length ps) w) (length bits) place there ∙ rest.2.past })
        | inr rest ↦ inr ((p * 2 ^ w + field_at bits place w) ∷ rest.0, rw (here, rest.1, one_more place w (length ps)) refl, ap suc rest.2, rw (one_more place w (length ps)) at rest.3)
      ]
]

abbrev ColumnsRead : List ℕ → ℕ → List ℕ → List Bool → ℕ → Type 0
ColumnsRead ws count ps bits place =
    ((e : MsgFault) × (columns_at ws ps (cursor_at bits place) ≡ Err e) × ShortAt bits place (repeated count ws) e)
    ⊎ ((ns : List ℕ) × (columns_at ws ps (cursor_at bits place) ≡ Ok (ns, cursor_at bits (place + total_width ws * count))) × (place + total_width ws * count ≤ length bits))

pub total-append : (ws vs : List ℕ) → total_width (ws ++ vs) ≡ total_width ws + total_width vs
total-append [] vs = omega arith
total-append (w ∷ ws) vs = rw (total-append ws vs) (omega arith)

total-replicate : (n w : ℕ) → total_width (replicate n w) ≡ w * n
total-replicate zero w = omega arith
total-replicate (suc n) w = rw (total-replicate n w) (omega arith)

pub total-repeated : (count : ℕ) (ws : List ℕ) → total_width (repeated count ws) ≡ total_width ws * count
total-repeated count [] = omega arith
total-repeated count (w ∷ ws) = total-append (replicate count w) (repeated count ws) ∙ rw (total-replicate count w, total-repeated count ws) (omega arith)

columns_read : (ws : List ℕ) (count : ℕ) (ps : List ℕ) (bits : List Bool) (place : ℕ) → length ps ≡ count → place ≤ length bits → ColumnsRead ws count ps bits place
unfolding columns_at
columns_read [] count ps bits place len h = let e : place + 0 * count ≡ place = omega arith in inr (ps, rw e refl, rw e h)
columns_read (w ∷ ws) count ps bits place len h = elim (column_read w ps bits place h) [
  | inl short ↦ inl (short.0, rw short.1 refl, rw len at (short_at_more (replicate (length ps) w) (repeated (length ps) ws) bits place short.0 short.2))
  | inr here ↦
      let all : place + w * count ≤ length bits = rw len at here.3 in
      let read : column_at w ps (cursor_at bits place) ≡ Ok (here.0, cursor_at bits (place + w * count)) = rw len at here.1 in
      let width : total_width (replicate count w) ≡ w * count = total-replicate count w in
      elim (columns_read ws count here.0 bits (place + w * count) (here.2 ∙ len) all) [
        | inl rest ↦ inl (rest.0, rw (read, rest.1) refl, short_at_after (replicate count w) (repeated count ws) bits place rest.0 (rw width all) (rw width rest.2))
        | inr rest ↦ inr (rest.0, rw (read, rest.1, two_more place w (total_width ws) count) refl, rw (two_more place w (total_width ws) count) at rest.2)
      ]
]
  where
    two_more : (place w t n : ℕ) → place + w * n + t * n ≡ place + (w + t) * n
    two_more place w t n = omega arith

-- ---- a multiple signal message, after its message number

-- The widths after the message number.
abbrev pub msm_widths : List ℕ → List ℕ → List Bool → List ℕ
msm_widths sw cw bits =
    let width = pair_count (field_at bits 73 64) (field_at bits 137 32) in
    12 ∷ 30 ∷ 1 ∷ 3 ∷ 7 ∷ 2 ∷ 2 ∷ 1 ∷ 3 ∷ 64 ∷ 32 ∷ width ∷ (repeated (count_ones (field_at bits 73 64)) sw ++ repeated (count_ones (field_at bits 169 width)) cw)

abbrev pub pair_count_of : List Bool → ℕ
pair_count_of bits = pair_count (field_at bits 73 64) (field_at bits 137 32)

-- The cases of the result.
pub data MsmEnd (sw cw : List ℕ) (g : System) (bits : List Bool) : Type 0 where
  no_time : (e : MsgFault) → length bits < 54 → ShortAt bits 12 (msm_widths sw cw bits) e → msm_at sw cw g (cursor_at bits 12) ≡ Err e → MsmEnd sw cw g bits
  late : 54 ≤ length bits → is_time g (field_at bits 24 30) ≡ false → msm_at sw cw g (cursor_at bits 12) ≡ Err BadTime → MsmEnd sw cw g bits
  no_masks : (e : MsgFault) → is_time g (field_at bits 24 30) ≡ true → length bits < 169 → ShortAt bits 12 (msm_widths sw cw bits) e → msm_at sw cw g (cursor_at bits 12) ≡ Err e → MsmEnd sw cw g bits
  many : is_time g (field_at bits 24 30) ≡ true → 169 ≤ length bits → 64 < pair_count_of bits → msm_at sw cw g (cursor_at bits 12) ≡ Err TooManyCells → MsmEnd sw cw g bits
  short : (e : MsgFault) → is_time g (field_at bits 24 30) ≡ true → pair_count_of bits ≤ 64 → ShortAt bits 12 (msm_widths sw cw bits) e → msm_at sw cw g (cursor_at bits 12) ≡ Err e → MsmEnd sw cw g bits
  good : (v : MsmValue × Cursor) → is_time g (field_at bits 24 30) ≡ true → pair_count_of bits ≤ 64 → first_past (length bits) 12 (msm_widths sw cw bits) ≡ None → msm_at sw cw g (cursor_at bits 12) ≡ Ok v → MsmEnd sw cw g bits

-- The cases of the header.
data HeaderEnd (g : System) (bits : List Bool) : Type 0 where
  no_time : (e : MsgFault) → length bits < 54 → ShortAt bits 12 head_widths e → header_at g (cursor_at bits 12) ≡ Err e → HeaderEnd g bits
  late : 54 ≤ length bits → is_time g (field_at bits 24 30) ≡ false → header_at g (cursor_at bits 12) ≡ Err BadTime → HeaderEnd g bits
  short : (e : MsgFault) → is_time g (field_at bits 24 30) ≡ true → length bits < 73 → ShortAt bits 12 (head_widths ++ tail_widths) e → header_at g (cursor_at bits 12) ≡ Err e → HeaderEnd g bits
  good : (v : MsmHeader) → is_time g (field_at bits 24 30) ≡ true → 73 ≤ length bits → header_at g (cursor_at bits 12) ≡ Ok (v, cursor_at bits 73) → HeaderEnd g bits

header_end : (g : System) (bits : List Bool) → 12 ≤ length bits → HeaderEnd g bits
header_end g bits h = elim (fields_read time_table bits 12 h) [
  | inl few ↦ no_time few.1.0 few.0 few.1.2 (header_chain g (cursor_at bits 12) ∙ rw few.1.1 refl)
  | inr there ↦ elim (cases_Bool (is_time g (field_at bits 24 30))) [
    | inr over ↦ late there.0 over (header_chain g (cursor_at bits 12) ∙ rw (there.1, no_time_of g (field_at bits 24 30) (cursor_at bits 54) over) refl)
    | inl early ↦
        let chain : header_at g (cursor_at bits 12) ≡ (fields_at header_table (cursor_at bits 54) >>= λ m. Ok (header_of (field_at bits 12 12) (field_at bits 24 30) m.0, m.1)) = header_chain g (cursor_at bits 12) ∙ rw (there.1, in_time g (field_at bits 24 30) (cursor_at bits 54) early, header_rest_is (field_at bits 12 12) (field_at bits 24 30) (cursor_at bits 54)) refl in
        elim (fields_read header_table bits 54 there.0) [
          | inl few ↦ short few.1.0 early few.0 (short_at_after head_widths tail_widths bits 12 few.1.0 there.0 few.1.2) (chain ∙ rw few.1.1 refl)
          | inr all ↦ good (header_of (field_at bits 12 12) (field_at bits 24 30) (contents_at header_table bits 54)) early all.0 (chain ∙ rw all.1 refl)
        ]
  ]
]

-- The cases of the masks.
data SetsEnd (bits : List Bool) : Type 0 where
  no_masks : (e : MsgFault) → length bits < 169 → ShortAt bits 73 mask_widths e → masks_at (cursor_at bits 73) ≡ Err e → SetsEnd bits
  many : 169 ≤ length bits → 64 < pair_count_of bits → masks_at (cursor_at bits 73) ≡ Err TooManyCells → SetsEnd bits
  short : (e : MsgFault) → pair_count_of bits ≤ 64 → ShortAt bits 73 (64 ∷ 32 ∷ pair_count_of bits ∷ []) e → masks_at (cursor_at bits 73) ≡ Err e → SetsEnd bits
  good : pair_count_of bits ≤ 64 → 169 + pair_count_of bits ≤ length bits → masks_at (cursor_at bits 73) ≡ Ok (record { satellites = field_at bits 73 64; signals = field_at bits 137 32; cells = field_at bits 169 (pair_count_of bits) }, cursor_at bits (169 + pair_count_of bits)) → SetsEnd bits

sets_end : (bits : List Bool) → 73 ≤ length bits → SetsEnd bits
sets_end bits h = elim (fields_read mask_table bits 73 h) [
  | inl few ↦ no_masks few.1.0 few.0 few.1.2 (sets_chain (cursor_at bits 73) ∙ rw few.1.1 refl)
  | inr there ↦
      let p = pair_count_of bits in
      let c = cursor_at bits 169 in
      elim (cases_lt 64 p) [
        | inl over ↦ many there.0 over (sets_chain (cursor_at bits 73) ∙ rw (there.1, many_rest (field_at bits 73 64) (field_at bits 137 32) c over) refl)
        | inr few ↦
            let chain : masks_at (cursor_at bits 73) ≡ (number_at p c >>= λ cells. Ok (record { satellites = field_at bits 73 64; signals = field_at bits 137 32; cells = cells.0 }, cells.1)) = sets_chain (cursor_at bits 73) ∙ rw (there.1, few_rest (field_at bits 73 64) (field_at bits 137 32) c few) refl in
            elim (cases_lt (length bits) (169 + p)) [
              | inl less ↦ short (Short 169) few (short_at_after mask_widths (p ∷ []) bits 73 (Short 169) there.0 (record { first = 169; is = refl; past = past_here p [] (length bits) 169 less })) (chain ∙ rw (number_short p c (omega (arith, length-drop 169 bits))) refl)
              | inr all ↦ good few all (chain ∙ rw (number_there_at p bits 169 all) refl)
            ]
      ]
]

-- The cases of the data.
data DataEnd (sw cw : List ℕ) (satellites cells : ℕ) (bits : List Bool) (place : ℕ) : Type 0 where
  short : (e : MsgFault) → ShortAt bits place (repeated satellites sw ++ repeated cells cw) e → ((f : List ℕ → List ℕ × Cursor → Result (MsmValue × Cursor) MsgFault) → (columns_at sw (replicate satellites 0) (cursor_at bits place) >>= λ s. columns_at cw (replicate cells 0) s.1 >>= λ c. f s.0 c) ≡ Err e) → DataEnd sw cw satellites cells bits place
  good : (s : List ℕ) (c : List ℕ × Cursor) → place + total_width (repeated satellites sw ++ repeated cells cw) ≤ length bits → ((f : List ℕ → List ℕ × Cursor → Result (MsmValue × Cursor) MsgFault) → (columns_at sw (replicate satellites 0) (cursor_at bits place) >>= λ s. columns_at cw (replicate cells 0) s.1 >>= λ c. f s.0 c) ≡ f s c) → DataEnd sw cw satellites cells bits place

data_end : (sw cw : List ℕ) (satellites cells : ℕ) (bits : List Bool) (place : ℕ) → place ≤ length bits → DataEnd sw cw satellites cells bits place
data_end sw cw satellites cells bits place h = elim (columns_read sw satellites (replicate satellites 0) bits place (length-replicate satellites 0) h) [
  | inl few ↦ short few.0 (short_at_more (repeated satellites sw) (repeated cells cw) bits place few.0 few.2) (λ f. rw few.1 refl)
  | inr one ↦
      let next = place + total_width sw * satellites in
      let width = total-repeated satellites sw in
      elim (columns_read cw cells (replicate cells 0) bits next (length-replicate cells 0) one.2) [
        | inl few ↦ short few.0 (short_at_after (repeated satellites sw) (repeated cells cw) bits place few.0 (rw width one.2) (rw width few.2)) (λ f. rw (one.1, few.1) refl)
        | inr two ↦ good one.0 (two.0, cursor_at bits (next + total_width cw * cells)) (room place (repeated satellites sw) (repeated cells cw) _ width (total-repeated cells cw) two.2) (λ f. rw (one.1, two.1) refl)
      ]
]
  where
    room : (place : ℕ) (ws vs : List ℕ) {a b : ℕ} (len : ℕ) → total_width ws ≡ a → total_width vs ≡ b → place + a + b ≤ len → place + total_width (ws ++ vs) ≤ len
    room place ws vs len e f h = rw (total-append ws vs, e, f) (omega arith)

abbrev header_widths : List ℕ
header_widths = head_widths ++ tail_widths

pub msm_end : (sw cw : List ℕ) (g : System) (bits : List Bool) → 12 ≤ length bits → MsmEnd sw cw g bits
unfolding msm_at
msm_end sw cw g bits h = by_header (header_end g bits h)
  where
    place : (p : ℕ) → 12 + total_width (header_widths ++ (64 ∷ 32 ∷ p ∷ [])) ≡ 169 + p
    place p = omega arith

    long : (p : ℕ) → 169 + p ≤ length bits → 12 + total_width (header_widths ++ (64 ∷ 32 ∷ p ∷ [])) ≤ length bits
    long p h = omega (arith, h)

    p : ℕ
    p = pair_count_of bits

    data_widths : List ℕ
    data_widths = repeated (count_ones (field_at bits 73 64)) sw ++ repeated (count_ones (field_at bits 169 p)) cw

    by_data : (v : MsmHeader) → is_time g (field_at bits 24 30) ≡ true → header_at g (cursor_at bits 12) ≡ Ok (v, cursor_at bits 73) → 73 ≤ length bits → p ≤ 64 → 169 + p ≤ length bits
        → masks_at (cursor_at bits 73) ≡ Ok (record { satellites = field_at bits 73 64; signals = field_at bits 137 32; cells = field_at bits 169 p }, cursor_at bits (169 + p)) → DataEnd sw cw (count_ones (field_at bits 73 64)) (count_ones (field_at bits 169 p)) bits (169 + p) → MsmEnd sw cw g bits
    by_data v early header room few there sets (short e s is) = short e early few (short_at_after (header_widths ++ (64 ∷ 32 ∷ p ∷ [])) data_widths bits 12 e (long p there) (rw (place p) s))
        (rw (header, sets) (is (λ s c. Ok (record { system = g; header = v; sets = record { satellites = field_at bits 73 64; signals = field_at bits 137 32; cells = field_at bits 169 p }; satellites = s; cells = c.0 }, c.1))))
    by_data v early header room few there sets (good s c all is) = good (record { system = g; header = v; sets = record { satellites = field_at bits 73 64; signals = field_at bits 137 32; cells = field_at bits 169 p }; satellites = s; cells = c.0 }, c.1) early few
        (past_through (header_widths ++ (64 ∷ 32 ∷ p ∷ [])) data_widths (length bits) 12 (long p there) ∙ past_none data_widths (length bits) (12 + total_width (header_widths ++ (64 ∷ 32 ∷ p ∷ []))) (rw (place p) all))
        (rw (header, sets) (is (λ s c. Ok (record { system = g; header = v; sets = record { satellites = field_at bits 73 64; signals = field_at bits 137 32; cells = field_at bits 169 p }; satellites = s; cells = c.0 }, c.1))))

    by_sets : (v : MsmHeader) → is_time g (field_at bits 24 30) ≡ true → header_at g (cursor_at bits 12) ≡ Ok (v, cursor_at bits 73) → 73 ≤ length bits → SetsEnd bits → MsmEnd sw cw g bits
    by_sets v early header room (no_masks e few s is) = no_masks e early few (short_at_after header_widths (mask_widths ++ (p ∷ data_widths)) bits 12 e room (short_at_more mask_widths (p ∷ data_widths) bits 73 e s)) (rw (header, is) refl)
    by_sets v early header room (many there over is) = many early there over (rw (header, is) refl)
    by_sets v early header room (short e few s is) = short e early few (short_at_after header_widths ((64 ∷ 32 ∷ p ∷ []) ++ data_widths) bits 12 e room (short_at_more (64 ∷ 32 ∷ p ∷ []) data_widths bits 73 e s)) (rw (header, is) refl)
    by_sets v early header room (good few there is) = by_data v early header room few there is (data_end sw cw (count_ones (field_at bits 73 64)) (count_ones (field_at bits 169 p)) bits (169 + p) there)

    by_header : HeaderEnd g bits → MsmEnd sw cw g bits
    by_header (no_time e few s is) = no_time e few (short_at_more head_widths (tail_widths ++ (mask_widths ++ (p ∷ data_widths))) bits 12 e s) (rw is refl)
    by_header (late there over is) = late there over (rw is refl)
    by_header (short e early few s is) = no_masks e early (omega (arith, few)) (short_at_more header_widths (mask_widths ++ (p ∷ data_widths)) bits 12 e s) (rw is refl)
    by_header (good v early room is) = by_sets v early is room (sets_end bits room)
