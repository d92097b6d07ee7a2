use Rattle.rinex_file.proofs.Rows.Sizes.{length-field}
use Rattle.rinex_file.proofs.Fields.Columns.{with_ends}
use Rattle.rinex_file.proofs.Names.{arith, to_z-of_z, put_chunk_whole}
use Rattle.rinex_file.proofs.write.satellite.put_value.Goals as goal

pub returns : goal.returns
returns c = grind (arith, length-field, c.columns_in.ensures, c.requires, to_z-of_z, put_chunk_whole, with_ends)
