use Rattle.rinex_file.proofs.Names.{◌≡◌, ◌≤◌, ◌+◌, ◌*◌, ◌++◌, length, take, flat_map, text_columns, fields_of, front_of}
use Rattle.rinex_file.proofs.header.lines.texts_line.Given as goal

-- the texts so far are in the content
abbrev pub invariant-loop-field : goal.invariant-loop-field
invariant-loop-field l = record {
  text : l.content.items ≡ front_of l.fn.row ++ flat_map (text_columns l.texts) (take l.field-index (fields_of l.fn.row));
  size : length l.content.items ≤ 20 + 120 * l.field-index;
}
