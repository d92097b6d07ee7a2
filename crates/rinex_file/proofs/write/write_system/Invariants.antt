use Rattle.rinex_file.proofs.Names.{◌≡◌, ◌-◌, length, IsBlankBut}
use Rattle.rinex_file.proofs.Writing.Skipped.{AreSent}
use Rattle.rinex_file.proofs.write.write_system.Given as goal

-- the lines of the satellites so far were written
abbrev pub invariant-loop-from : goal.invariant-loop-from
invariant-loop-from g l =
    let contents = g.W.Write.contents in
    record {
      out : AreSent l.plan l.epoch.epoch l.system l.from l.cells (contents l.fn.writer.inner) (contents l.writer.inner);
      fine : l.writer.failures ≡ l.fn.writer.failures;
      blank : IsBlankBut l.used l.row;
      widest : l.writer.widest ≡ l.fn.writer.widest;
    }

abbrev pub decreases-loop-from : goal.decreases-loop-from
decreases-loop-from g l = length l.cells - l.from
