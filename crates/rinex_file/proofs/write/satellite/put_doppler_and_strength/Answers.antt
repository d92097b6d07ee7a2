use Rattle.rinex_file.proofs.Rows.Sizes.{length-field}
use Rattle.rinex_file.proofs.Names.{arith, to_z-of_z, put_chunk_whole}
use Rattle.rinex_file.proofs.write.satellite.put_doppler_and_strength.Goals as goal

pub returns-then-unsigned_abs-lt100000000 : goal.returns-then-unsigned_abs-lt100000000
returns-then-unsigned_abs-lt100000000 c = grind (arith, length-field, c.requires, to_z-of_z, put_chunk_whole)
