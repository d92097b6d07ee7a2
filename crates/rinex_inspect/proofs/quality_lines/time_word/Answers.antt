use Rattle.rinex_inspect.proofs.QualityTexts.{word_is, word_short}
use Rattle.rinex_inspect.proofs.quality_lines.time_word.Goals as goal

pub returns : goal.returns
returns c = record { text = word_is c.args.time c.new-word.ensures c.add_instant.ensures.text; short = word_short _ _ c.new-word.ensures c.add_instant.ensures.short }
