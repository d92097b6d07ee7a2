use Rattle.rinex_file.proofs.Reading.Lines.{ahead_moved}
use Rattle.rinex_file.proofs.Names.{leaves_all, arith, take-append-drop}
use Rattle.rinex_file.proofs.read.lines.Lines.next.Goals as goal

pub returns-then-self-gt0-clause-taken : goal.returns-then-self-gt0-clause-taken
returns-then-self-gt0-clause-taken g c = grind (arith, c.if-self-gt0.true, c.skip.ensures, ahead_moved, take-append-drop, leaves_all)
