use Rattle.rtcm_msg.proofs.Names.{◌≡◌, ◌*◌, ◌≤◌, length, drop, end_of_rows}
use Rattle.rtcm_msg.proofs.field.end_of_fields.Given as goal

abbrev pub invariant-loop-width : goal.invariant-loop-width
invariant-loop-width l = record {
  same : end_of_rows (drop l.width-index l.widths) l.count (8 * length l.bytes) l.place ≡ end_of_rows l.widths l.count (8 * length l.bytes) l.fn.place;
  within : l.place ≤ 8 * length l.bytes;
}
