use Rattle.rinex_file.proofs.Names.{◌∙◌, ap, length}
use Rattle.rinex_file.proofs.Rows.Cut.{blank_written, length-signal}
use Rattle.rinex_file.proofs.OneReading.{blank_read}
use Rattle.rinex_file.proofs.read.row.written_at.Goals as goal

pub returns-then-at-text : goal.returns-then-at-text
returns-then-at-text c = blank_read _ c.no_values.result c.no_values.ensures (blank_written c.args.at c.args.text.now c.if-at-text.true)

pub written_in-requires : goal.written_in-requires
written_in-requires c = ap length c.columns_at.ensures ∙ length-signal c.args.at c.args.text.now
