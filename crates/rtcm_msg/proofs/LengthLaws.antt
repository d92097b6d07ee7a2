-- No message is longer than 1,023 bytes.
use Rattle.rtcm_msg.proofs.Names.{ℕ, ◌≡◌, ◌+◌, ◌*◌, ◌/◌, ◌^◌, ◌≤◌, List, [], ◌∷◌, ◌++◌, length, refl, ◌∙◌, arith, lit≤, length-append, count_ones, Option, flat_map, mul-le, ones-le, uint, Message, field_bits, fields_width, total_width, columns, station_fields, MsmValue, IsValue, pair_count, msm_bits, header_fields, mask_fields, IsMessage, message_bits, message_number, satellite_widths, cell_widths, longest_message_bits, length-uint}
use Rattle.rtcm_msg.proofs.FormLaws.{narrow}
use Rattle.rtcm_msg.specs.declared.message.Message.TheVariants as messages

length-field_bits : (fs : List (ℕ × ℕ)) → length (field_bits fs) ≡ fields_width fs
unfolding field_bits
length-field_bits [] = refl
length-field_bits (f ∷ fs) = length-append (uint f.0 f.1) (field_bits fs) ∙ rw (length-uint f.0 f.1, length-field_bits fs) refl

length-column : (w t : ℕ) (ns : List ℕ) → length (flat_map (λ p. uint w (p / 2 ^ t)) ns) ≡ w * length ns
length-column w t [] = omega arith
length-column w t (n ∷ ns) = length-append (uint w (n / 2 ^ t)) (flat_map (λ p. uint w (p / 2 ^ t)) ns) ∙ rw (length-uint w (n / 2 ^ t), length-column w t ns) (omega arith)

length-columns : (ws ns : List ℕ) → length (columns ws ns) ≡ total_width ws * length ns
unfolding columns
length-columns [] ns = omega arith
length-columns (w ∷ ws) ns = length-append (flat_map (λ p. uint w (p / 2 ^ total_width ws)) ns) (columns ws ns) ∙ rw (length-column w (total_width ws) ns, length-columns ws ns) (omega arith)

msm_short : (sw cw : List ℕ) (number : ℕ) (v : MsmValue) → total_width sw + total_width cw ≤ 124 → IsValue sw cw v → length (msm_bits sw cw number v 0) ≤ longest_message_bits
msm_short sw cw number v few h =
    let p = pair_count v.sets.satellites v.sets.signals in
    let head : length (field_bits (header_fields number v.header 0)) ≡ 73 = length-field_bits (header_fields number v.header 0) in
    let sets : length (field_bits (mask_fields v.sets)) ≡ 96 + p = length-field_bits (mask_fields v.sets) ∙ omega arith in
    let satellites : length (columns sw v.satellites) ≤ total_width sw * 64 = rw (length-columns sw v.satellites, h.satellite_count) (mul-le (total_width sw) (count_ones v.sets.satellites) (total_width sw) 64 (omega arith) (ones-le 64 v.sets.satellites h.sets.satellites)) in
    let cells : length (columns cw v.cells) ≤ total_width cw * 64 = rw (length-columns cw v.cells, h.cell_count) (mul-le (total_width cw) (count_ones v.sets.cells) (total_width cw) 64 (omega arith) (let few = ones-le p v.sets.cells h.sets.cells in omega (arith, h.sets.few, few))) in
    rw (length-append (field_bits (header_fields number v.header 0)) (field_bits (mask_fields v.sets) ++ (columns sw v.satellites ++ columns cw v.cells)), length-append (field_bits (mask_fields v.sets)) (columns sw v.satellites ++ columns cw v.cells), length-append (columns sw v.satellites) (columns cw v.cells), head, sets)
    (omega (arith, h.sets.few, satellites, cells, few))

pub message_short : (v : Message) → IsMessage v → length (message_bits v 0) ≤ longest_message_bits
message_short (messages.Station s) h = rw (length-field_bits (station_fields s 0)) (by_height s.height)
  where
    by_height : (x : Option ℕ) → fields_width (station_fields (record s { height = x }) 0) ≤ longest_message_bits
    by_height x = grind (arith, lit≤)
message_short (messages.Msm m) h = let few = narrow m.form in msm_short (satellite_widths m.form) (cell_widths m.form) (message_number m.form m.msm.system) m.msm (omega (arith, few.0, few.1)) h
message_short (messages.Other n set) h = lit≤ tt
