use Rattle.rtcm_msg.proofs.Names.{ℕ, List, Bool, Some, [], ◌∷◌, ◌≡◌, ◌++◌, ◌∙◌, refl, rules, sym, ap, append_assoc, w64, to_z-of_z, append-nil, uint, StationParts, field_bits, common_fields, station_fields, byte-bit}
use Rattle.rtcm_msg.proofs.WritingSteps.{field_bits-append}
use Rattle.rtcm_msg.proofs.writing.write_station.Goals as goal

with_height : (s : StationParts) (h : ℕ) (old mid new : List Bool) → s.height ≡ Some h → mid ≡ old ++ field_bits (common_fields 1006 s 0) → new ≡ mid ++ uint 16 h → new ≡ old ++ field_bits (station_fields s 0)
unfolding field_bits
with_height s h old mid new e m n =
    rw (e, n, m) (append_assoc old (field_bits (common_fields 1006 s 0)) (uint 16 h) ∙ ap (λ t. old ++ t) (ap (λ t. field_bits (common_fields 1006 s 0) ++ t) (sym (append-nil (uint 16 h))) ∙ sym (field_bits-append (common_fields 1006 s 0) ((16, h) ∷ []))))

pub returns-in-Some : goal.returns-in-Some
returns-in-Some c =
    let p = c.args.parts.now in
    let common : c.write_fields.new.writer ≡ c.args.writer.now ++ field_bits (common_fields 1006 p 0) = c.write_fields.ensures.bits ∙ rw (c.raw_of.ensures.value, c.raw_of-2.ensures.value, c.raw_of-3.ensures.value, to_z-of_z w64 p.x (search rules), to_z-of_z w64 p.y (search rules), to_z-of_z w64 p.z (search rules), byte-bit p.gps, byte-bit p.glonass, byte-bit p.galileo, byte-bit p.reference, byte-bit p.oscillator, c.is_some.ensures, c.in-Some.is) refl in
    with_height p c.in-Some.height c.args.writer.now c.write_fields.new.writer c.put.new.self c.in-Some.is common c.put.ensures.bits

pub returns-in_default : goal.returns-in_default
returns-in_default c =
    let p = c.args.parts.now in
    rw (c.write_fields.ensures.bits, c.raw_of.ensures.value, c.raw_of-2.ensures.value, c.raw_of-3.ensures.value, to_z-of_z w64 p.x (search rules), to_z-of_z w64 p.y (search rules), to_z-of_z w64 p.z (search rules), byte-bit p.gps, byte-bit p.glonass, byte-bit p.galileo, byte-bit p.reference, byte-bit p.oscillator, c.is_some.ensures, c.in_default.is) refl
