use Rattle.rinex_file.proofs.Names.{refl, header_lines}
use Rattle.rinex_file.proofs.header.head.header_lines.Goals as goal

pub returns : goal.returns
unfolding header_lines
returns c = refl
