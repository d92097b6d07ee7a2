use Rattle.rinex_file.proofs.Rows.Columns.{blank_row}
use Rattle.rinex_file.proofs.write.satellite.satellite_line.Goals as goal

pub put_satellite_line-size-requires-clause-blank : goal.put_satellite_line-size-requires-clause-blank
put_satellite_line-size-requires-clause-blank c = blank_row
