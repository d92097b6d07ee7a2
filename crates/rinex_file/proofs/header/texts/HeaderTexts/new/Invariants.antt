use Rattle.rinex_file.proofs.HeaderRows.Texts.{AreCut}
use Rattle.rinex_file.proofs.Names.{◌≡◌, drop, length, fields, first_fault, text_count, lists_of}
use Rattle.rinex_file.proofs.header.texts.HeaderTexts.new.Given as goal

-- no text so far has a fault, and each was stored
abbrev pub invariant-loop-field : goal.invariant-loop-field
invariant-loop-field l = record {
  faultless : first_fault (lists_of l.texts) fields ≡ first_fault (lists_of l.texts) (drop l.field-index fields);
  cut : AreCut l.field-index (lists_of l.texts) l.taken;
  count : length l.taken ≡ text_count;
}
