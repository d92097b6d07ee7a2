use Rattle.rinex_file.proofs.HeaderRows.End.{blank_texts, all_blank}
use Rattle.rinex_file.proofs.Names.{text_count}
use Rattle.rinex_file.proofs.header.texts.HeaderTexts.blank.Goals as goal

pub invariant_of-result : goal.invariant_of-result
invariant_of-result c = blank_texts _ (all_blank _ (λ text. text.items) text_count c.default-texts.result c.default-texts.ensures)

pub returns : goal.returns
returns c = all_blank _ (λ text. text.items) text_count c.default-texts.result c.default-texts.ensures
