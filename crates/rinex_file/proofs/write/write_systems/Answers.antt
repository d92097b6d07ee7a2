use Rattle.rinex_file.proofs.Rows.Columns.{blank_row}
use Rattle.rinex_file.proofs.Writing.Sent.{lines_next, lines_after, lines_all}
use Rattle.rinex_file.proofs.Names.{part_written, after, arith, refl, Appends-nil, Appends-trans, lines_of_systems}
use Rattle.rinex_file.proofs.write.write_systems.Goals as goal

pub loop-i-init : goal.loop-i-init
loop-i-init g c = record { out = Appends-nil (g.W.Write.contents c.args.writer.now.inner); blank = blank_row; fine = refl; widest = refl }

pub loop-i-preserved : goal.loop-i-preserved
loop-i-preserved g c = grind (arith, c.loop-i.invariant, c.at.ensures, c.in_ok-write_system.ensures.written, c.in_ok-write_system.ensures.blank, lines_next, Appends-trans)

pub returns-in_err-write_system : goal.returns-in_err-write_system
returns-in_err-write_system g c =
    let inv = c.loop-i.invariant in
    part_written (lines_of_systems _ _ (after _)) _ c.from_residual.result c.from_residual.ensures.1 (record { done = _; is = lines_after _ _ c.loop-i.i _ c.at.ensures; out = inv.out; fine = inv.fine; widest = inv.widest })
    refl refl c.in_err-write_system.ensures.written

pub returns : goal.returns
returns g c =
    let inv = c.loop-i.invariant in
    record { whole = grind (arith, c.loop-i-test.false, inv.out, lines_all); part = tt; device = (tt, inv.fine, inv.widest) }
