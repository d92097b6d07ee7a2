use Rattle.rinex_file.proofs.Fields.Values.{none_written, some_written, few_blanks}
use Rattle.rinex_file.proofs.read.fields.blanks_in.Goals as goal

pub returns-then-written-eq0-clause-count : goal.returns-then-written-eq0-clause-count
returns-then-written-eq0-clause-count c = none_written c.args.columns c.fits-columns.0 c.if-written-eq0.true

pub returns-else-written-eq0-clause-count : goal.returns-else-written-eq0-clause-count
returns-else-written-eq0-clause-count c = some_written c.args.columns c.fits-columns.0 c.if-written-eq0.false

pub returns-else-written-eq0-clause-most : goal.returns-else-written-eq0-clause-most
returns-else-written-eq0-clause-most c = few_blanks c.args.columns c.fits-columns.0 c.if-written-eq0.false
