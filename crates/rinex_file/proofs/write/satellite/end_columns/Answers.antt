use Rattle.rinex_file.proofs.Rows.Columns.{feed_replaced}
use Rattle.rinex_file.proofs.Names.{get_or-take, arith, cases_lt, length-take-le}
use Rattle.rinex_file.proofs.write.satellite.end_columns.Goals as goal

pub returns-clause-blank : goal.returns-clause-blank
returns-clause-blank c after = grind (arith, c.requires, c.trimmed_len-end.ensures.blank, c.trimmed_len-end.ensures.bound, length-take-le, cases_lt, get_or-take, feed_replaced)
