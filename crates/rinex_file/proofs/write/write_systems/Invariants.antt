use Rattle.rinex_file.proofs.Names.{systems, ◌≡◌, take, Appends, lines_of_systems, IsBlankBut}
use Rattle.rinex_file.proofs.write.write_systems.Given as goal

-- the lines of the systems so far were written
abbrev pub invariant-loop-i : goal.invariant-loop-i
invariant-loop-i g l =
    let contents = g.W.Write.contents in
    record {
      out : Appends (contents l.fn.writer.inner) (contents l.writer.inner) (lines_of_systems l.plan l.epoch.epoch (take l.i systems));
      blank : IsBlankBut l.used l.row;
      fine : l.writer.failures ≡ l.fn.writer.failures;
      widest : l.writer.widest ≡ l.fn.writer.widest;
    }
