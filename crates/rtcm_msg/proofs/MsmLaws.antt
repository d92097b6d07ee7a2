-- Reading a multiple signal message: the bits that were read, reading an encoding, and the fault.
use Rattle.rtcm_msg.proofs.Names.{ℕ, ◌≡◌, ◌+◌, ◌*◌, ◌^◌, ◌<◌, ◌≤◌, Bool, true, false, List, [], ◌∷◌, ◌++◌, length, Result, Ok, Err, refl, sym, ap, ◌∙◌, arith, inl, inr, append_assoc, append-nil, replicate, count_ones, ◌/◌, cases_lt, cases_Bool, length-map, length-replicate, System, uint, Cursor, MsgFault, BadTime, TooManyCells, MsmHeader, number_at, reading, ◌>>=◌, field_bits, total_width, columns, columns_at, EachBelow, masks_after, header_at, masks_at, msm_at, checked_time, is_time, IsHeader, AreMasks, IsValue, MasksValue, MsmValue, pair_count, mask_fields, time_table, header_table, mask_table, time_contents, header_contents, header_of, widths, Contents, fields_of}
use Rattle.rtcm_msg.proofs.Binds.{of_read, bind_ok, number_consumed, ok_err}
use Rattle.rtcm_msg.proofs.Combine.{cursor, number_again}
use Rattle.rtcm_msg.proofs.WritingSteps.{field_bits-append}
use Rattle.rtcm_msg.proofs.FieldLaws.{fields_at, reading_is, fields_ok, fields_again, FieldsConsumed}
use Rattle.rtcm_msg.proofs.ColumnSteps.{columns_fit}
use Rattle.rtcm_msg.proofs.ColumnLaws.{ColumnsConsumed, columns_consumed, columns_again, highs_zero}

-- ---- the parts

-- The fields after the message number up to the epoch time, and those after the epoch time.
abbrev pub head_widths : List ℕ
head_widths = widths time_table

abbrev pub tail_widths : List ℕ
tail_widths = widths header_table

abbrev pub mask_widths : List ℕ
mask_widths = widths mask_table

-- The fields of a header after the message number.
abbrev pub header_tail : MsmHeader → ℕ → List (ℕ × ℕ)
header_tail h reserved = fields_of time_table (time_contents h) ++ fields_of header_table (header_contents h reserved)

abbrev pub header_rest : ℕ → ℕ → Cursor → Result (MsmHeader × Cursor) MsgFault
header_rest station time c = reading header_table c (λ m. Ok (header_of station time m.0, m.1))

pub header_rest_is : (station time : ℕ) (c : Cursor) → header_rest station time c ≡ (fields_at header_table c >>= λ m. Ok (header_of station time m.0, m.1))
header_rest_is station time c = reading_is header_table c (λ m. Ok (header_of station time m.0, m.1))

pub header_chain : (g : System) (c : Cursor) → header_at g c ≡ (fields_at time_table c >>= λ n. checked_time g n.0.1.0 n.1 >>= λ t. header_rest n.0.0 t.0 t.1)
unfolding header_at
header_chain g c = reading_is time_table c (λ n. checked_time g n.0.1.0 n.1 >>= λ t. header_rest n.0.0 t.0 t.1)

-- Two sequences of fields, one after the other.
pub both : (fs gs : List (ℕ × ℕ)) (a b d : List Bool) → a ≡ field_bits fs ++ b → b ≡ field_bits gs ++ d → a ≡ field_bits (fs ++ gs) ++ d
both fs gs a b d e f = e ∙ (ap (λ t. field_bits fs ++ t) f ∙ (sym (append_assoc (field_bits fs) (field_bits gs) d) ∙ ap (λ t. t ++ d) (sym (field_bits-append fs gs))))

-- ---- times

pub in_time : (g : System) (t : ℕ) (c : Cursor) → is_time g t ≡ true → checked_time g t c ≡ Ok (t, c)
in_time g t c h = rw h refl

pub no_time_of : (g : System) (t : ℕ) (c : Cursor) → is_time g t ≡ false → checked_time g t c ≡ Err BadTime
no_time_of g t c h = rw h refl

pub time_fits : (g : System) (t : ℕ) → is_time g t ≡ true → t < 2 ^ 30
time_fits g t h = grind arith

-- ---- headers

pub record IsHeaderRead (g : System) (v : MsmHeader) (c d : Cursor) : Type 0 where
  pub reserved : ℕ
  pub small : reserved < 128
  pub is_header : IsHeader g v
  pub bits : c.rest ≡ field_bits (header_tail v reserved) ++ d.rest

header_done : (g : System) (c : Cursor) (n : Contents time_table × Cursor) (m : Contents header_table × Cursor) → FieldsConsumed time_table c n → is_time g n.0.1.0 ≡ true → FieldsConsumed header_table n.1 m → IsHeaderRead g (header_of n.0.0 n.0.1.0 m.0) c m.1
header_done g c n m a early b = record {
  reserved = m.0.1.1.0;
  small = b.fit.1.1.0;
  is_header = record { station = a.fit.0; time = early; iods = b.fit.1.0; steering = b.fit.1.1.1.0; clock = b.fit.1.1.1.1.0; interval = b.fit.1.1.1.1.1.1.0 };
  bits = both (fields_of time_table n.0) (fields_of header_table m.0) _ _ _ a.bits b.bits;
}

pub header_consumed : (g : System) (c : Cursor) (v : MsmHeader × Cursor) → header_at g c ≡ Ok v → IsHeaderRead g v.0 c v.1
header_consumed g c v e =
    let head = bind_ok (fields_at time_table c) _ v (sym (header_chain g c) ∙ e) in
    let consumed = fields_ok time_table c head.0 refl head.1 in
    elim (cases_Bool (is_time g head.0.0.1.0)) [
      | inl early ↦
          let tail = bind_ok (fields_at header_table head.0.1) _ v (sym (header_rest_is head.0.0.0 head.0.0.1.0 head.0.1) ∙ (rw (in_time g head.0.0.1.0 head.0.1 early) at head.2)) in
          let x : MsmHeader × Cursor = (header_of head.0.0.0 head.0.0.1.0 tail.0.0, tail.0.1) in
          of_read (λ (w : MsmHeader × Cursor). IsHeaderRead g w.0 c w.1) x v tail.2 (header_done g c head.0 tail.0 consumed early (fields_ok header_table head.0.1 tail.0 refl tail.1))
      | inr late ↦ absurd (ok_err v BadTime _ head.2 (rw (no_time_of g head.0.0.1.0 head.0.1 late) refl))
    ]

pub header_again : (g : System) (v : MsmHeader) (reserved place : ℕ) (rest : List Bool) → IsHeader g v → reserved < 128 → header_at g (cursor place (field_bits (header_tail v reserved) ++ rest)) ≡ Ok (v, cursor (place + 42 + 19) rest)
header_again g v reserved place rest h small =
    let n = time_contents v in
    let m = header_contents v reserved in
    let c = cursor place (field_bits (header_tail v reserved) ++ rest) in
    let split : c ≡ cursor place (field_bits (fields_of time_table n) ++ (field_bits (fields_of header_table m) ++ rest)) = ap (cursor place) (ap (λ t. t ++ rest) (field_bits-append (fields_of time_table n) (fields_of header_table m)) ∙ append_assoc (field_bits (fields_of time_table n)) (field_bits (fields_of header_table m)) rest) in
    let first = fields_again time_table n place (field_bits (fields_of header_table m) ++ rest) refl (h.station, (time_fits g v.time h.time, tt)) in
    let second = fields_again header_table m (place + 42) rest refl (tt, (h.iods, (small, (h.steering, (h.clock, (tt, (h.interval, tt))))))) in
    header_chain g c ∙ rw (split, first, in_time g v.time (cursor (place + 42) (field_bits (fields_of header_table m) ++ rest)) h.time, header_rest_is v.station v.time (cursor (place + 42) (field_bits (fields_of header_table m) ++ rest)), second) refl

-- ---- masks

pub sets_chain : (c : Cursor) → masks_at c ≡ (fields_at mask_table c >>= λ n. masks_after n.0.0 n.0.1.0 n.1)
unfolding masks_at
sets_chain c = reading_is mask_table c (λ n. masks_after n.0.0 n.0.1.0 n.1)

pub few_rest : (satellites signals : ℕ) (c : Cursor) → pair_count satellites signals ≤ 64 → masks_after satellites signals c ≡ (number_at (pair_count satellites signals) c >>= λ cells. Ok (record { satellites = satellites; signals = signals; cells = cells.0 }, cells.1))
few_rest a b c h = grind arith

pub many_rest : (satellites signals : ℕ) (c : Cursor) → 64 < pair_count satellites signals → masks_after satellites signals c ≡ Err TooManyCells
many_rest a b c h = grind arith

pub record AreSetsRead (v : MasksValue) (c d : Cursor) : Type 0 where
  pub are_sets : AreMasks v
  pub bits : c.rest ≡ field_bits (mask_fields v) ++ d.rest

pub sets_consumed : (c : Cursor) (v : MasksValue × Cursor) → masks_at c ≡ Ok v → AreSetsRead v.0 c v.1
unfolding field_bits
sets_consumed c v e =
    let masks = bind_ok (fields_at mask_table c) _ v (sym (sets_chain c) ∙ e) in
    let consumed = fields_ok mask_table c masks.0 refl masks.1 in
    let a = masks.0.0.0 in
    let b = masks.0.0.1.0 in
    elim (cases_lt 64 (pair_count a b)) [
      | inl many ↦ absurd (ok_err v TooManyCells _ masks.2 (many_rest a b masks.0.1 many))
      | inr few ↦
          let cells = bind_ok (number_at (pair_count a b) masks.0.1) _ v (sym (few_rest a b masks.0.1 few) ∙ masks.2) in
          let read = number_consumed (pair_count a b) masks.0.1 cells.0 cells.1 in
          let x : MasksValue × Cursor = (record { satellites = a; signals = b; cells = cells.0.0 }, cells.0.1) in
          of_read (λ (w : MasksValue × Cursor). AreSetsRead w.0 c w.1) x v cells.2 (record {
            are_sets = record { satellites = consumed.fit.0; signals = consumed.fit.1.0; few = few; cells = read.fits };
            bits = both (fields_of mask_table masks.0.0) ((pair_count a b, cells.0.0) ∷ []) _ _ _ consumed.bits (rw (append-nil (uint (pair_count a b) cells.0.0)) read.bits);
          })
    ]

pub sets_again : (v : MasksValue) (place : ℕ) (rest : List Bool) → AreMasks v → masks_at (cursor place (field_bits (mask_fields v) ++ rest)) ≡ Ok (v, cursor (place + 96 + pair_count v.satellites v.signals) rest)
unfolding field_bits
sets_again v place rest h = grind (arith, append_assoc, number_again, sets_chain)

-- ---- the whole message

-- The bits after the message number.
abbrev pub msm_tail : List ℕ → List ℕ → MsmValue → ℕ → List Bool
msm_tail sw cw v reserved = field_bits (header_tail v.header reserved) ++ (field_bits (mask_fields v.sets) ++ (columns sw v.satellites ++ columns cw v.cells))

pub record IsMsmRead (sw cw : List ℕ) (g : System) (v : MsmValue) (c d : Cursor) : Type 0 where
  pub reserved : ℕ
  pub small : reserved < 128
  pub is_value : IsValue sw cw v
  pub system : v.system ≡ g
  pub bits : c.rest ≡ msm_tail sw cw v reserved ++ d.rest

-- The number of numbers read from columns is the one requested.
columns_count : (ws : List ℕ) (n : ℕ) (c : Cursor) (x : List ℕ × Cursor) → ColumnsConsumed ws (replicate n 0) c x → length x.0 ≡ n
columns_count ws n c x t = sym (length-map x.0 (λ k. k / 2 ^ total_width ws)) ∙ (ap length t.high ∙ length-replicate n 0)

msm_done : {sw cw : List ℕ} {g : System} {c : Cursor} {h : MsmHeader × Cursor} {s : MasksValue × Cursor} {x y : List ℕ × Cursor} → IsHeaderRead g h.0 c h.1 → AreSetsRead s.0 h.1 s.1
    → columns_at sw (replicate (count_ones s.0.satellites) 0) s.1 ≡ Ok x → columns_at cw (replicate (count_ones s.0.cells) 0) x.1 ≡ Ok y
    → IsMsmRead sw cw g (record { system = g; header = h.0; sets = s.0; satellites = x.0; cells = y.0 }) c y.1
msm_done {sw} {cw} {c} {h} {s} {x} {y} a b e f =
    let xs = columns_consumed sw (replicate (count_ones s.0.satellites) 0) s.1 x e in
    let ys = columns_consumed cw (replicate (count_ones s.0.cells) 0) x.1 y f in
    record {
      reserved = a.reserved;
      small = a.small;
      system = refl;
      is_value = record {
        header = a.is_header;
        sets = b.are_sets;
        satellite_count = columns_count sw (count_ones s.0.satellites) s.1 x xs;
        cell_count = columns_count cw (count_ones s.0.cells) x.1 y ys;
        satellites = columns_fit sw (count_ones s.0.satellites) s.1 x e;
        cells = columns_fit cw (count_ones s.0.cells) x.1 y f;
      };
      bits = join4 (field_bits (header_tail h.0 a.reserved)) (field_bits (mask_fields s.0)) (columns sw x.0) (columns cw y.0) _ a.bits b.bits (xs.bits ∙ ap (λ z. columns sw x.0 ++ z) ys.bits);
    }
  where
    join4 : (p q r t : List Bool) {a b c : List Bool} (e : List Bool) → a ≡ p ++ b → b ≡ q ++ c → c ≡ r ++ (t ++ e) → a ≡ (p ++ (q ++ (r ++ t))) ++ e
    join4 p q r t e i j k = i ∙ (ap (λ z. p ++ z) (j ∙ ap (λ z. q ++ z) k) ∙ sym (append_assoc p (q ++ (r ++ t)) e ∙ ap (λ z. p ++ z) (append_assoc q (r ++ t) e ∙ ap (λ z. q ++ z) (append_assoc r t e))))

-- Encoded numbers in range are read from zeros as the same numbers.
columns_same : (ws ns : List ℕ) (count place : ℕ) (rest : List Bool) → length ns ≡ count → EachBelow (total_width ws) ns → columns_at ws (replicate count 0) (cursor place (columns ws ns ++ rest)) ≡ Ok (ns, cursor (place + total_width ws * length ns) rest)
columns_same ws ns count place rest len below = rw (← len, ← highs_zero (total_width ws) ns below) (columns_again ws ns place rest)

pub msm_consumed : (sw cw : List ℕ) (g : System) (c : Cursor) (v : MsmValue × Cursor) → msm_at sw cw g c ≡ Ok v → IsMsmRead sw cw g v.0 c v.1
unfolding msm_at
msm_consumed sw cw g c v e = grind (arith, msm_done, header_consumed, sets_consumed)

pub msm_again : (sw cw : List ℕ) (v : MsmValue) (reserved place : ℕ) (rest : List Bool) → IsValue sw cw v → reserved < 128 → (d : Cursor) × (msm_at sw cw v.system (cursor place (msm_tail sw cw v reserved ++ rest)) ≡ Ok (v, d))
unfolding msm_at
msm_again sw cw v reserved place rest h small =
    let p = pair_count v.sets.satellites v.sets.signals in
    let here = place + 42 + 19 in
    let there = here + 96 + p in
    let last = columns cw v.cells ++ rest in
    let mid = columns sw v.satellites ++ last in
    let sets = field_bits (mask_fields v.sets) ++ mid in
    let split : msm_tail sw cw v reserved ++ rest ≡ field_bits (header_tail v.header reserved) ++ sets =
    append_assoc (field_bits (header_tail v.header reserved)) (field_bits (mask_fields v.sets) ++ (columns sw v.satellites ++ columns cw v.cells)) rest
    ∙ ap (λ t. field_bits (header_tail v.header reserved) ++ t) (append_assoc (field_bits (mask_fields v.sets)) (columns sw v.satellites ++ columns cw v.cells) rest
    ∙ ap (λ t. field_bits (mask_fields v.sets) ++ t) (append_assoc (columns sw v.satellites) (columns cw v.cells) rest)) in
    let first = header_again v.system v.header reserved place sets h.header small in
    let second = sets_again v.sets here mid h.sets in
    let third = columns_same sw v.satellites (count_ones v.sets.satellites) there last h.satellite_count h.satellites in
    let fourth = columns_same cw v.cells (count_ones v.sets.cells) (there + total_width sw * length v.satellites) rest h.cell_count h.cells in
    (cursor (there + total_width sw * length v.satellites + total_width cw * length v.cells) rest, rw (split, first, second, third, fourth) refl)
