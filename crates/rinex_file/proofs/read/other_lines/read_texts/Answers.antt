use Rattle.rinex_file.proofs.HeaderRows.Texts.{no_line, not_same, not_printable, fields_from, refused_text, added_text, few_columns}
use Rattle.rinex_file.proofs.Names.{refused, taken, arith, ◌≡◌, ℕ, List, Bool, IsTrue, ◌↔◌, Some, length, drop_all, HeaderField, HeaderLists, fields_of, front_of, text_count, texts_line, ReadsOrRefusesTexts, texts_in, has_row, true, common_steps}
use Rattle.rinex_file.proofs.read.other_lines.read_texts.Goals as goal

compared : (r : HeaderField) {line again : List ℕ} (old : HeaderLists) {new : HeaderLists} (b : Bool) → length old ≡ text_count → texts_in (fields_of r) (length (front_of r)) line old ≡ Some new → has_row new r ≡ true
    → again ≡ texts_line new r → (IsTrue b ↔ (line ≡ again)) → ReadsOrRefusesTexts r line old new b
compared r old b size read some is says = grind (arith, not_same, refused)

pub loop-field-preserved : goal.loop-field-preserved
loop-field-preserved c = grind (arith, c.fields-field-items.ensures.value, c.loop-field-test.true, c.width-width.ensures.value, c.columns.ensures.value, c.set.ensures.fault, c.set.ensures.value, c.ok.ensures.value, c.in_ok-ok.was, c.loop-field.invariant.read, c.loop-field.invariant.few, few_columns, added_text, fields_from)

pub returns-in_err-ok : goal.returns-in_err-ok
returns-in_err-ok c = grind (arith, c.are_texts.ensures.count, c.loop-field.invariant.read, c.fields-field-items.ensures.value, c.loop-field-test.true, c.width-width.ensures.value, c.columns.ensures.value, c.set.ensures.fault, c.ok.ensures.value, c.in_err-ok.was, c.from_residual.ensures, not_printable, refused_text, fields_from)

pub returns : goal.returns
returns c = grind (arith, common_steps, taken, compared, drop_all)

pub returns-then-not-has_row : goal.returns-then-not-has_row
returns-then-not-has_row c = grind (arith, c.fields-field-items.ensures.value, c.loop-field-test.false, c.are_texts.ensures.count, c.loop-field.invariant.read, c.has_row.ensures, c.if-not-has_row.true, no_line, drop_all)
