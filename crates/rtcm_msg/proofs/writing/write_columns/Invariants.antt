use Rattle.rtcm_msg.proofs.Names.{◌≡◌, ◌++◌, ◌+◌, ◌*◌, ◌<◌, drop, length, columns, total_width}
use Rattle.rtcm_msg.proofs.writing.write_columns.Given as goal

abbrev pub invariant-loop-width : goal.invariant-loop-width
invariant-loop-width l = record {
  low : l.shift < 128;
  shift : l.shift ≡ total_width (drop l.width-index l.widths);
  bits : l.writer ++ columns (drop l.width-index l.widths) l.numbers ≡ l.initial.writer ++ columns l.widths l.numbers;
  len : length l.writer + total_width (drop l.width-index l.widths) * length l.numbers ≡ length l.initial.writer + total_width l.widths * length l.numbers;
}
