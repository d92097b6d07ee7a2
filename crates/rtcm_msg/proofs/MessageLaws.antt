-- Reading a message: the bits that were read, reading an encoding, and the fault.
use Rattle.rtcm_msg.proofs.Names.{ℕ, ◌≡◌, ◌+◌, ◌==◌, ◌^◌, ◌<◌, ◌≤◌, ◌&&◌, Bool, true, false, List, [], ◌∷◌, ◌++◌, length, drop, Result, Ok, Err, Option, Some, None, refl, sym, ap, subst, ◌∙◌, arith, not, ◌⊎◌, inl, inr, append_assoc, nat_lt, nat_le, if◌then◌else◌, is_some, IsTrue, cases_lt, and_left, and_right, lt-leb, le-leb, lt-ltb, le-ltb, length-drop, System, bits_of, message_at, uint, filled, Cursor, MsgFault, BadTime, TooManyCells, Short, StationParts, Message, ◌>>=◌, field_bits, first_past, total_width, columns, station_at, station_table, station_parts, msm_at, MsmValue, is_time, mask_fields, message_by, start, other_at, other_of, set_at, body_by, Kind, kind_of, is_msm_kind, station_number, ReadsMessage, IsMessage, IsFault, message_bits, reserved_width, is_other, is_read_msm, layout, layout_by, has_bad_time, has_too_many, is_bad_time, Form, satellite_widths, cell_widths, message_number, number_of}
use Rattle.rtcm_msg.proofs.NumberLaws.{number_is, of_station, of_msm}
use Rattle.rtcm_msg.proofs.Binds.{bind_ok, ok_inj, of_read, number_consumed, number_short, ok_err}
use Rattle.rtcm_msg.proofs.Combine.{cursor, number_again, past_here, past_next}
use Rattle.rtcm_msg.proofs.StationLaws.{station_again, station_consumed, station_tail, station_widths, height_widths, station_chain, IsRead}
use Rattle.rtcm_msg.proofs.MsmLaws.{msm_consumed, msm_again, msm_tail, header_tail, IsMsmRead}
use Rattle.rtcm_msg.proofs.FieldLaws.{contents_at, fields_at, cursor_at, field_at, ShortAt, fields_read, number_there_at, short_at_more, short_at_after, past_none}
use Rattle.rtcm_msg.proofs.FaultLaws.{MsmEnd, no_time, late, no_masks, many, short, good, msm_end, msm_widths, pair_count_of}
use Rattle.rtcm_msg.specs.declared.message.Message.TheVariants as messages
use Rattle.rtcm_msg.specs.declared.number.Kind.TheVariants as kinds

-- ---- the message number

pub message_there : (kind : ℕ → Kind) (bits : List Bool) → 12 ≤ length bits → message_by kind bits ≡ body_by (kind (number_of bits)) (number_of bits) (cursor_at bits 12)
unfolding message_by
message_there kind bits h = rw (number_there_at 12 bits 0 h) refl

pub message_none : (kind : ℕ → Kind) (bits : List Bool) → length bits < 12 → message_by kind bits ≡ Err (Short 0)
unfolding message_by
message_none kind bits h = rw (number_short 12 (start bits) h) refl

-- ---- other messages

pub other_set : (bits : List Bool) → 12 ≤ length bits → set_at (cursor_at bits 12) ≡ (if nat_le 55 (length bits) then Some (field_at bits 12 12, field_at bits 54 1 == 1) else None)
other_set bits h = grind arith

pub other_is : (bits : List Bool) → 12 ≤ length bits → other_at (number_of bits) (cursor_at bits 12) ≡ other_of bits
other_is bits h = rw (other_set bits h) refl

-- ---- reading an encoding

-- Bits that begin with this message number are read as the fields after it.
again : (bits : List Bool) (n : ℕ) (tail rest : List Bool) → n < 2 ^ 12 → bits ≡ (uint 12 n ++ tail) ++ rest → message_by kind_of bits ≡ body_by (kind_of n) n (cursor 12 (tail ++ rest))
unfolding message_by
again bits n tail rest small is = rw (is, append_assoc (uint 12 n) tail rest, number_again 12 n 0 (tail ++ rest) small) refl

pub message_again : (bits rest : List Bool) (v : Message) (reserved : ℕ) → IsMessage v → is_other v ≡ false → reserved < 2 ^ reserved_width v → bits ≡ message_bits v reserved ++ rest → message_by kind_of bits ≡ Ok v
unfolding field_bits
message_again bits rest (messages.Station s) reserved h known small is =
    let n = station_number (is_some s.height) in
    again bits n (field_bits (station_tail s reserved)) rest (of_station (is_some s.height)).1 is ∙ rw ((of_station (is_some s.height)).0, station_again s reserved 12 rest h small) refl
message_again bits rest (messages.Msm v) reserved h known small is =
    let sw = satellite_widths v.form in
    let cw = cell_widths v.form in
    let m = v.msm in
    let n = message_number v.form m.system in
    let tail = msm_tail sw cw m reserved in
    let read = msm_again sw cw m reserved 12 rest h small in
    again bits n tail rest (of_msm v.form m.system).1 (is ∙ ap (λ t. t ++ rest) (append_assoc (uint 12 n) (field_bits (header_tail m.header reserved)) (field_bits (mask_fields m.sets) ++ (columns sw m.satellites ++ columns cw m.cells))))
    ∙ rw ((of_msm v.form m.system).0, read.1) refl
message_again bits rest (messages.Other n set) reserved h known small is = cc

-- Bits that begin with the encoding of a value are read as the value.
pub read_again : (bits : List Bool) (v : Message) → ReadsMessage bits v → message_by kind_of bits ≡ Ok v
read_again bits v h = grind (arith, message_again, message_there, other_is)

pub one_value : (bits : List Bool) (v w : Message) → ReadsMessage bits v → ReadsMessage bits w → v ≡ w
one_value bits v w a b = ok_inj v w (message_by kind_of bits) (read_again bits v a) (read_again bits w b)

-- ---- what was read

pub record Found (bits : List Bool) (v : Message) : Type 0 where
  pub is_message : IsMessage v
  pub reads : ReadsMessage bits v

-- The message number and the bits after it.
begins_with_number : (bits : List Bool) → 12 ≤ length bits → bits ≡ uint 12 (number_of bits) ++ drop 12 bits
begins_with_number bits h = (number_consumed 12 (start bits) (number_of bits, cursor_at bits 12) (number_there_at 12 bits 0 h)).bits

begins : (bits : List Bool) (v : Message) (reserved : ℕ) (rest : List Bool) → IsMessage v → is_other v ≡ false → reserved < 2 ^ reserved_width v → bits ≡ message_bits v reserved ++ rest → Found bits v
begins bits v reserved rest h known small is = record { is_message = h; reads = inl (record { is_value = h; known = known; prefix = message_bits v reserved; rest = rest; joined = is; encodes = record { reserved = reserved; fits = small; bits_are = refl } }) }

-- A message number and the fields after it.
with_number : (bits : List Bool) (n : ℕ) (tail rest : List Bool) → bits ≡ uint 12 n ++ drop 12 bits → drop 12 bits ≡ tail ++ rest → bits ≡ (uint 12 n ++ tail) ++ rest
with_number bits n tail rest e f = e ∙ (ap (λ t. uint 12 n ++ t) f ∙ sym (append_assoc (uint 12 n) tail rest))

found_station : (bits : List Bool) (has : Bool) (s : StationParts) (d : Cursor) → bits ≡ uint 12 (station_number has) ++ drop 12 bits → IsRead s has (cursor_at bits 12) d → Found bits (messages.Station s)
unfolding field_bits
found_station bits has s d prefix r =
    let number : station_number has ≡ station_number (is_some s.height) = ap station_number (sym r.height) in
    begins bits (messages.Station s) r.reserved d.rest r.in_range refl r.one (with_number bits (station_number (is_some s.height)) (field_bits (station_tail s r.reserved)) d.rest (prefix ∙ ap (λ (n : ℕ). uint 12 n ++ drop 12 bits) number) r.bits)

found_msm : (form : Form) (bits : List Bool) (g : System) (m : MsmValue) (d : Cursor) → bits ≡ uint 12 (message_number form g) ++ drop 12 bits → IsMsmRead (satellite_widths form) (cell_widths form) g m (cursor_at bits 12) d → Found bits (messages.Msm (record { form = form; msm = m }))
unfolding field_bits
found_msm form bits g m d prefix r =
    let n = message_number form m.system in
    let content = columns (satellite_widths form) m.satellites ++ columns (cell_widths form) m.cells in
    let number : message_number form g ≡ n = ap (message_number form) (sym r.system) in
    begins bits (messages.Msm (record { form = form; msm = m })) r.reserved d.rest r.is_value refl r.small (with_number bits n (msm_tail (satellite_widths form) (cell_widths form) m r.reserved) d.rest (prefix ∙ ap (λ (n : ℕ). uint 12 n ++ drop 12 bits) number) r.bits
    ∙ ap (λ (t : List Bool). t ++ d.rest) (sym (append_assoc (uint 12 n) (field_bits (header_tail m.header r.reserved)) (field_bits (mask_fields m.sets) ++ content))))

body_found : (bits : List Bool) (v : Message) → 12 ≤ length bits → (k : Kind) → kind_of (number_of bits) ≡ k → body_by k (number_of bits) (cursor_at bits 12) ≡ Ok v → Found bits v
body_found bits v h (kinds.Station has) e read =
    let body = bind_ok (station_at has (cursor_at bits 12)) _ v read in
    let x : Message = messages.Station body.0.0 in
    of_read (Found bits) x v body.2 (found_station bits has body.0.0 body.0.1 (begins_with_number bits h ∙ ap (λ (k : ℕ). uint 12 k ++ drop 12 bits) (number_is _ _ e)) (station_consumed has (cursor_at bits 12) body.0 body.1))
body_found bits v h (kinds.Msm form g) e read =
    let body = bind_ok (msm_at (satellite_widths form) (cell_widths form) g (cursor_at bits 12)) _ v read in
    of_read (Found bits) (messages.Msm (record { form = form; msm = body.0.0 })) v body.2 (found_msm form bits g body.0.0 body.0.1 (begins_with_number bits h ∙ ap (λ (k : ℕ). uint 12 k ++ drop 12 bits) (number_is _ _ e)) (msm_consumed (satellite_widths form) (cell_widths form) g (cursor_at bits 12) body.0 body.1))
body_found bits v h kinds.Other e read = grind (arith, ok_inj, other_is)

pub message_found : (bits : List Bool) (v : Message) → message_by kind_of bits ≡ Ok v → Found bits v
message_found bits v read = elim (cases_lt (length bits) 12) [
  | inl few ↦ absurd (ok_err v (Short 0) (message_by kind_of bits) read (message_none kind_of bits few))
  | inr there ↦ body_found bits v there _ refl (sym (message_there kind_of bits there) ∙ read)
]

-- ---- the fault

data MessageEnd (bits : List Bool) : Type 0 where
  faulty : (e : MsgFault) → IsFault bits e → message_by kind_of bits ≡ Err e → MessageEnd bits
  sound : (v : Message) → ((f : MsgFault) → IsFault bits f → ⊥) → message_by kind_of bits ≡ Ok v → MessageEnd bits

and_second : (a b c : Bool) → b ≡ false → (a && b && c) ≡ false
and_second a b c h = and_left (a && b) c (and_right a b h)

pub and_all : (a b c : Bool) → a ≡ true → b ≡ true → c ≡ true → IsTrue (a && b && c)
and_all a b c e f g = rw (e, f, g) refl

pub some_none : (r : Option ℕ) (k : ℕ) → r ≡ Some k → r ≡ None → ⊥
some_none r k e f = cc

-- Neither of the two faults that are checked first.
pub record InTime (bits : List Bool) : Type 0 where
  pub time : has_bad_time bits ≡ false
  pub few : has_too_many bits ≡ false

time_by : (bits : List Bool) (k : Kind) → kind_of (number_of bits) ≡ k → has_bad_time bits ≡ (nat_le 54 (length bits) && is_bad_time k (field_at bits 24 30))
time_by bits k e = ap (λ (k : Kind). nat_le 54 (length bits) && is_bad_time k (field_at bits 24 30)) e

no_msm_in_time : (bits : List Bool) (k : Kind) → kind_of (number_of bits) ≡ k → is_msm_kind k ≡ false → is_bad_time k (field_at bits 24 30) ≡ false → InTime bits
no_msm_in_time bits k e none fine = grind arith

no_fault : (bits : List Bool) → 12 ≤ length bits → InTime bits → first_past (length bits) 0 (layout bits) ≡ None → (f : MsgFault) → IsFault bits f → ⊥
no_fault bits h k l f m = grind arith

short_fault : (bits : List Bool) (ws : List ℕ) (e : MsgFault) → 12 ≤ length bits → InTime bits → layout bits ≡ 12 ∷ ws → ShortAt bits 12 ws e → IsFault bits e
short_fault bits ws e h clean is s = subst (IsFault bits) (sym s.is) (clean.time, clean.few, inr (h, ap (first_past (length bits) 0) is ∙ (past_next 12 ws (length bits) 0 h ∙ s.past)))

past_all : (bits : List Bool) (ws : List ℕ) → 12 ≤ length bits → layout bits ≡ 12 ∷ ws → first_past (length bits) 12 ws ≡ None → first_past (length bits) 0 (layout bits) ≡ None
past_all bits ws h is none = ap (first_past (length bits) 0) is ∙ (past_next 12 ws (length bits) 0 h ∙ none)

pub station_end : (bits : List Bool) (has : Bool) → 12 ≤ length bits
    → ((e : MsgFault) × (station_at has (cursor_at bits 12) ≡ Err e) × ShortAt bits 12 (station_widths ++ height_widths has) e) ⊎ ((v : StationParts × Cursor) × (station_at has (cursor_at bits 12) ≡ Ok v) × (first_past (length bits) 12 (station_widths ++ height_widths has) ≡ None))
station_end bits has h = elim (fields_read station_table bits 12 h) [
  | inl few ↦ inl (few.1.0, station_chain has (cursor_at bits 12) ∙ rw few.1.1 refl, short_at_more station_widths (height_widths has) bits 12 few.1.0 few.1.2)
  | inr there ↦ by_height has there.0 there.1
]
  where
    by_height : (has : Bool) → 12 + total_width station_widths ≤ length bits → fields_at station_table (cursor_at bits 12) ≡ Ok (contents_at station_table bits 12, cursor_at bits (12 + total_width station_widths))
        → ((e : MsgFault) × (station_at has (cursor_at bits 12) ≡ Err e) × ShortAt bits 12 (station_widths ++ height_widths has) e) ⊎ ((v : StationParts × Cursor) × (station_at has (cursor_at bits 12) ≡ Ok v) × (first_past (length bits) 12 (station_widths ++ height_widths has) ≡ None))
    by_height false room read = inr ((station_parts (contents_at station_table bits 12) None, cursor_at bits 152), station_chain false (cursor_at bits 12) ∙ rw read refl, past_none (station_widths ++ []) (length bits) 12 room)
    by_height true room read = elim (cases_lt (length bits) 168) [
      | inl few ↦ inl (Short 152, station_chain true (cursor_at bits 12) ∙ rw (read, number_short 16 (cursor_at bits 152) (omega (arith, length-drop 152 bits))) refl, short_at_after station_widths (16 ∷ []) bits 12 (Short 152) room (record { first = 152; is = refl; past = past_here 16 [] (length bits) 152 few }))
      | inr all ↦ inr ((station_parts (contents_at station_table bits 12) (Some (field_at bits 152 16)), cursor_at bits 168), station_chain true (cursor_at bits 12) ∙ rw (read, number_there_at 16 bits 152 all) refl, past_none (station_widths ++ (16 ∷ [])) (length bits) 12 all)
    ]

pub layout_station : (has : Bool) (bits : List Bool) → layout_by (kinds.Station has) bits ≡ 12 ∷ (station_widths ++ height_widths has)
layout_station has bits = grind arith

-- The result of reading a multiple signal message, for the widths of any form.
msm_message_end : {bits : List Bool} {sw cw : List ℕ} {g : System} (wrap : MsmValue → Message) → 12 ≤ length bits → is_read_msm (number_of bits) ≡ true
    → has_bad_time bits ≡ (nat_le 54 (length bits) && not (is_time g (field_at bits 24 30))) → layout bits ≡ 12 ∷ msm_widths sw cw bits
    → message_by kind_of bits ≡ (msm_at sw cw g (cursor_at bits 12) >>= λ m. Ok (wrap m.0)) → MsmEnd sw cw g bits → MessageEnd bits
msm_message_end {bits} {sw} {cw} {g} wrap h msm time lay read end = go end
  where
    m : Bool
    m = is_read_msm (number_of bits)

    early_is : is_time g (field_at bits 24 30) ≡ true → has_bad_time bits ≡ false
    early_is early = time ∙ ap (λ (b : Bool). nat_le 54 (length bits) && not b) early ∙ and_right (nat_le 54 (length bits)) false refl

    few_is : pair_count_of bits ≤ 64 → has_too_many bits ≡ false
    few_is few = and_right (m && nat_le 169 (length bits)) (nat_lt 64 (pair_count_of bits)) (le-ltb 64 (pair_count_of bits) few)

    go : MsmEnd sw cw g bits → MessageEnd bits
    go (no_time e few s is) = faulty e (short_fault bits (msm_widths sw cw bits) e h (record { time = time ∙ rw (lt-leb 54 (length bits) few) refl; few = and_second m (nat_le 169 (length bits)) (nat_lt 64 (pair_count_of bits)) (lt-leb 169 (length bits) (omega (arith, few))) }) lay s) (read ∙ rw is refl)
    go (late there over is) = faulty BadTime (time ∙ rw (le-leb 54 (length bits) there, over) refl) (read ∙ rw is refl)
    go (no_masks e early few s is) = faulty e (short_fault bits (msm_widths sw cw bits) e h (record { time = early_is early; few = and_second m (nat_le 169 (length bits)) (nat_lt 64 (pair_count_of bits)) (lt-leb 169 (length bits) few) }) lay s) (read ∙ rw is refl)
    go (many early there over is) = faulty TooManyCells (early_is early, and_all m (nat_le 169 (length bits)) (nat_lt 64 (pair_count_of bits)) msm (le-leb 169 (length bits) there) (lt-ltb 64 (pair_count_of bits) over)) (read ∙ rw is refl)
    go (short e early few s is) = faulty e (short_fault bits (msm_widths sw cw bits) e h (record { time = early_is early; few = few_is few }) lay s) (read ∙ rw is refl)
    go (good v early few none is) = sound (wrap v.0) (no_fault bits h (record { time = early_is early; few = few_is few }) (past_all bits (msm_widths sw cw bits) h lay none)) (read ∙ rw is refl)

end_by : (bits : List Bool) → 12 ≤ length bits → (k : Kind) → kind_of (number_of bits) ≡ k → message_by kind_of bits ≡ body_by k (number_of bits) (cursor_at bits 12) → MessageEnd bits
unfolding first_past
end_by bits h (kinds.Station has) e read =
    let lay : layout bits ≡ 12 ∷ (station_widths ++ height_widths has) = ap (λ (k : Kind). layout_by k bits) e ∙ layout_station has bits in
    let clean = no_msm_in_time bits (kinds.Station has) e refl refl in
    elim (station_end bits has h) [
      | inl bad ↦ faulty bad.0 (short_fault bits (station_widths ++ height_widths has) bad.0 h clean lay bad.2) (read ∙ rw bad.1 refl)
      | inr fine ↦ sound (messages.Station fine.0.0) (no_fault bits h clean (past_all bits (station_widths ++ height_widths has) h lay fine.2)) (read ∙ rw fine.1 refl)
    ]
end_by bits h (kinds.Msm form g) e read =
    msm_message_end (λ m. messages.Msm (record { form = form; msm = m })) h (ap is_msm_kind e) (time_by bits (kinds.Msm form g) e) (ap (λ (k : Kind). layout_by k bits) e) read (msm_end (satellite_widths form) (cell_widths form) g bits h)
end_by bits h kinds.Other e read =
    sound _ (no_fault bits h (no_msm_in_time bits kinds.Other e refl refl) (ap (λ (k : Kind). first_past (length bits) 0 (layout_by k bits)) e)) read

message_end : (bits : List Bool) → MessageEnd bits
unfolding first_past
message_end bits = elim (cases_lt (length bits) 12) [
  | inl few ↦ faulty (Short 0) (
    rw (lt-leb 54 (length bits) (omega (arith, few))) refl,
    and_second (is_read_msm (number_of bits)) (nat_le 169 (length bits)) (nat_lt 64 (pair_count_of bits)) (lt-leb 169 (length bits) (omega (arith, few))),
    inl (few, refl),
  ) (message_none kind_of bits few)
  | inr there ↦ end_by bits there _ refl (message_there kind_of bits there)
]

pub message_fault : (bits : List Bool) (e : MsgFault) → message_by kind_of bits ≡ Err e → IsFault bits e
message_fault bits e read = go (message_end bits)
  where
    err_same : (e d : MsgFault) (r : Result Message MsgFault) → r ≡ Err e → r ≡ Err d → e ≡ d
    err_same e d r a b = cc

    go : MessageEnd bits → IsFault bits e
    go h1 = grind (arith, ok_err)

pub message_only_fault : (bits : List Bool) (f : MsgFault) → IsFault bits f → message_by kind_of bits ≡ Err f
message_only_fault bits f fault = go (message_end bits)
  where
    go : MessageEnd bits → message_by kind_of bits ≡ Err f
    go h1 = grind arith

-- ---- the encoding

pub zero_read : (v : Message) → IsMessage v → is_other v ≡ false → ReadsMessage (filled (message_bits v 0)) v
zero_read v value known = grind arith

pub message_value : (bytes : List ℕ) (m : Message) → message_at bytes ≡ Ok m → IsMessage m
message_value bytes m read = (message_found (bits_of bytes) m read).is_message
