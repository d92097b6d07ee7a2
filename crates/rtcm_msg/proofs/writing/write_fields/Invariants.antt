use Rattle.rtcm_msg.proofs.Names.{◌≡◌, ◌++◌, ◌+◌, drop, length, field_bits, fields_width}
use Rattle.rtcm_msg.proofs.writing.write_fields.Given as goal

abbrev pub invariant-loop-width : goal.invariant-loop-width
invariant-loop-width l = record {
  bits : l.writer ++ field_bits (drop l.width-index l.fields) ≡ l.initial.writer ++ field_bits l.fields;
  len : length l.writer + fields_width (drop l.width-index l.fields) ≡ length l.initial.writer + fields_width l.fields;
}
