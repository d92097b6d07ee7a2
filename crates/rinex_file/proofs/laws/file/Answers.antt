use Rattle.rinex_file.proofs.Writing.Text.{file_text-gathered, header_text-some}
use Rattle.rinex_file.proofs.laws.file.Goals as goal

pub returns-clause-text : goal.returns-clause-text
returns-clause-text c = file_text-gathered

pub returns-clause-some : goal.returns-clause-some
returns-clause-some c = header_text-some
