use Rattle.rinex_file.proofs.Names.{all_rows, Version, End, get_or_default}
use Rattle.rinex_file.proofs.header.rows.row_at.Goals as goal

pub returns : goal.returns
returns c = get_or_default all_rows c.args.place Version End c.requires
