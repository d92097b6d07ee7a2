use Rattle.command_line.proofs.Names.{refl}
use Rattle.command_line.proofs.commands.program_rows.Goals as goal

pub returns : goal.returns
returns c = (_, _, refl, refl, refl, refl)
