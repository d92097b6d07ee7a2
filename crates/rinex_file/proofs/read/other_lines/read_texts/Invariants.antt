use Rattle.rinex_file.proofs.Names.{◌≡◌, ◌≤◌, ◌+◌, ◌*◌, length, drop, fields_of, front_of, texts_in}
use Rattle.rinex_file.proofs.read.other_lines.read_texts.Given as goal

-- the texts that are left are read after those so far
abbrev pub invariant-loop-field : goal.invariant-loop-field
invariant-loop-field l = record {
  read : texts_in (drop l.field-index (fields_of l.row)) l.column l.line l.texts ≡ texts_in (fields_of l.row) (length (front_of l.row)) l.line l.fn.texts;
  few : l.column ≤ 20 + 60 * l.field-index;
}
