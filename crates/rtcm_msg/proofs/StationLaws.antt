-- Reading a station message: the bits that were read, reading an encoding, and the fault.
use Rattle.rtcm_msg.proofs.Names.{common_steps, arith, ℕ, ◌≡◌, ◌+◌, ◌^◌, ◌<◌, Bool, true, false, List, [], ◌++◌, Ok, Option, Some, None, refl, sym, ap, ◌∙◌, is_some, subst, append_assoc, IfSome, add-zero, uint, Cursor, StationParts, number_at, ◌>>=◌, field_bits, total_width, station_at, height_at, InRange, height_fields, station_table, height_table, station_contents, station_parts, widths, Contents, fields_of}
use Rattle.rtcm_msg.proofs.LayoutLaws.{FitAll}
use Rattle.rtcm_msg.proofs.Binds.{bind_ok, ok_inj, number_consumed}
use Rattle.rtcm_msg.proofs.Combine.{cursor, number_again}
use Rattle.rtcm_msg.proofs.WritingSteps.{field_bits-append}
use Rattle.rtcm_msg.proofs.FieldLaws.{fields_at, reading_is, fields_ok, fields_again, FieldsConsumed}

-- The fields after the message number, without the height.
abbrev pub station_widths : List ℕ
station_widths = widths station_table

abbrev pub height_widths : Bool → List ℕ
height_widths false = []
height_widths true = widths height_table

-- The fields of a station message after its number.
abbrev pub station_tail : StationParts → ℕ → List (ℕ × ℕ)
station_tail s reserved = fields_of station_table (station_contents s reserved) ++ height_fields s.height

pub station_chain : (has : Bool) (c : Cursor) → station_at has c ≡ (fields_at station_table c >>= λ s. height_at has s.1 >>= λ h. Ok (station_parts s.0 h.0, h.1))
unfolding station_at
station_chain has c = reading_is station_table c (λ s. height_at has s.1 >>= λ h. Ok (station_parts s.0 h.0, h.1))

-- ---- the bits of a station message that was read

-- The bits between the two cursors encode the fields of the value.
pub record IsRead (s : StationParts) (has : Bool) (c d : Cursor) : Type 0 where
  pub reserved : ℕ
  pub one : reserved < 2
  pub in_range : InRange s
  pub height : is_some s.height ≡ has
  pub bits : c.rest ≡ field_bits (station_tail s reserved) ++ d.rest

in_range_of : (cs : Contents station_table) (h : Option ℕ) → FitAll station_table cs → IfSome h (λ k. k < 2 ^ 16) → InRange (station_parts cs h)
in_range_of cs h fit height = grind (arith, common_steps)

-- The bits of the fields that were read, with those of the height.
consumed_bits : (has : Bool) (c : Cursor) (n : Contents station_table × Cursor) (h : Option ℕ × Cursor) → FieldsConsumed station_table c n → IfSome h.0 (λ k. k < 2 ^ 16) → is_some h.0 ≡ has → n.1.rest ≡ field_bits (height_fields h.0) ++ h.1.rest
    → IsRead (station_parts n.0 h.0) has c h.1
consumed_bits has c n h consumed fits is bits = record {
  reserved = n.0.1.1.1.1.1.1.1.1.0;
  one = consumed.fit.1.1.1.1.1.1.1.1.0;
  in_range = in_range_of n.0 h.0 consumed.fit fits;
  height = is;
  bits = consumed.bits ∙ (ap (λ t. field_bits (fields_of station_table n.0) ++ t) bits ∙ (sym (append_assoc (field_bits (fields_of station_table n.0)) (field_bits (height_fields h.0)) h.1.rest)
      ∙ ap (λ (m : List Bool). m ++ h.1.rest) (sym (field_bits-append (fields_of station_table n.0) (height_fields h.0)))));
}

by_height : (has : Bool) (c : Cursor) (n : Contents station_table × Cursor) (h : Option ℕ × Cursor) → FieldsConsumed station_table c n → height_at has n.1 ≡ Ok h → IsRead (station_parts n.0 h.0) has c h.1
unfolding field_bits
by_height false c n h consumed e = subst (λ (k : Option ℕ × Cursor). IsRead (station_parts n.0 k.0) false c k.1) (ok_inj (None, n.1) h _ refl e) (consumed_bits false c n (None, n.1) consumed tt refl refl)
by_height true c n h consumed e =
    let read = bind_ok (number_at 16 n.1) _ h e in
    let one = number_consumed 16 n.1 read.0 read.1 in
    subst (λ (k : Option ℕ × Cursor). IsRead (station_parts n.0 k.0) true c k.1) (ok_inj (Some read.0.0, read.0.1) h _ refl read.2)
    (consumed_bits true c n (Some read.0.0, read.0.1) consumed one.fits refl (one.bits ∙ sym (append_assoc (uint 16 read.0.0) [] read.0.1.rest)))

pub station_consumed : (has : Bool) (c : Cursor) (v : StationParts × Cursor) → station_at has c ≡ Ok v → IsRead v.0 has c v.1
station_consumed has c v e =
    let first = bind_ok (fields_at station_table c) _ v (sym (station_chain has c) ∙ e) in
    let consumed = fields_ok station_table c first.0 refl first.1 in
    let second = bind_ok (height_at has first.0.1) _ v first.2 in
    subst (λ (w : StationParts × Cursor). IsRead w.0 has c w.1) (ok_inj _ v _ refl second.2) (by_height has c first.0 second.0 consumed second.1)

-- ---- reading an encoding

height_again : (h : Option ℕ) (place : ℕ) (rest : List Bool) → IfSome h (λ k. k < 2 ^ 16) → height_at (is_some h) (cursor place (field_bits (height_fields h) ++ rest)) ≡ Ok (h, cursor (place + total_width (height_widths (is_some h))) rest)
unfolding field_bits
height_again h place rest fits = grind (arith, add-zero, append_assoc, number_again)

pub station_again : (s : StationParts) (reserved place : ℕ) (rest : List Bool) → InRange s → reserved < 2
    → station_at (is_some s.height) (cursor place (field_bits (station_tail s reserved) ++ rest)) ≡ Ok (s, cursor (place + total_width station_widths + total_width (height_widths (is_some s.height))) rest)
station_again s reserved place rest r one =
    let cs = station_contents s reserved in
    let c = cursor place (field_bits (fields_of station_table cs ++ height_fields s.height) ++ rest) in
    let split : c ≡ cursor place (field_bits (fields_of station_table cs) ++ (field_bits (height_fields s.height) ++ rest)) = ap (cursor place) (ap (λ t. t ++ rest) (field_bits-append (fields_of station_table cs) (height_fields s.height)) ∙ append_assoc (field_bits (fields_of station_table cs)) (field_bits (height_fields s.height)) rest) in
    let first = fields_again station_table cs place (field_bits (height_fields s.height) ++ rest) refl (r.station, (r.realization, (tt, (tt, (tt, (tt, (r.x, (tt, (one, (r.y, (r.quarter, (r.z, tt)))))))))))) in
    let second = height_again s.height (place + total_width station_widths) rest r.height in
    station_chain (is_some s.height) c ∙ rw (split, first, second) refl
