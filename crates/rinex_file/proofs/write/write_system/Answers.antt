-- The lines of the satellites before the cell at `from` are written.
use Rattle.rinex_file.proofs.Writing.Skipped.{all_sent, next_sent, one_sent}
use Rattle.rinex_file.proofs.Writing.Sent.{no_lines, lines_around, not_written, is_shown}
use Rattle.rinex_file.proofs.Names.{part_written, arith, ◌∙◌, ◌++◌, ap, sym, subst, refl, take, drop, ◌-◌, Appends, Appends-nil, satellites, left_all}
use Rattle.rinex_file.proofs.write.write_system.Goals as goal

pub loop-from-init : goal.loop-from-init
loop-from-init g c =
    let a = g.W.Write.contents c.args.writer.now.inner in
    record {
      out = record {
        last = 0;
        most = omega arith;
        left = left_all c.args.system c.cells-cells.result.now c.cells-cells.ensures.held;
        out = subst (λ l. Appends a a l) (sym (no_lines c.args.plan.now c.args.epoch.now.epoch c.args.system)) (Appends-nil a);
      };
      fine = refl;
      blank = c.requires;
      widest = refl;
    }

pub loop-from-preserved-in_ok-write_whole : goal.loop-from-preserved-in_ok-write_whole
loop-from-preserved-in_ok-write_whole g c =
    let contents = g.W.Write.contents in
    let inv = c.loop-from.invariant in
    let cells = c.cells-cells in
    let next = next_sent c.index-cells-from.result inv.out cells.ensures.cells cells.ensures.held cells.ensures.order c.loop-from-test.true c.id-id.ensures.value c.end_of-to.ensures.end c.end_of-to.ensures.bound in
    let shown = is_shown c.args.plan.now c.args.system (take (c.end_of-to.result - c.loop-from.from) (drop c.loop-from.from cells.result.now)) _ (sym c.is_written.ensures ∙ c.if-is_written.true) in
    record {
      out = one_sent next (subst (λ l. Appends (contents c.loop-from.writer.inner) (contents c.write_whole.new.self.inner) l) (sym shown) (grind (arith, c.in_ok-write_whole.ensures.written, c.put_satellite_line-size.ensures.text)));
      fine = c.in_ok-write_whole.ensures.written.device.1 ∙ inv.fine;
      blank = c.put_satellite_line-size.ensures.blank;
      widest = c.in_ok-write_whole.ensures.written.device.2 ∙ inv.widest;
    }

pub loop-from-preserved : goal.loop-from-preserved
loop-from-preserved g c =
    let b = g.W.Write.contents c.loop-from.writer.inner in
    let inv = c.loop-from.invariant in
    let cells = c.cells-cells in
    let id = c.id-id.result in
    let next = next_sent c.index-cells-from.result inv.out cells.ensures.cells cells.ensures.held cells.ensures.order c.loop-from-test.true c.id-id.ensures.value c.end_of-to.ensures.end c.end_of-to.ensures.bound in
    let none = not_written c.args.plan.now c.args.system (take (c.end_of-to.result - c.loop-from.from) (drop c.loop-from.from cells.result.now)) id (sym c.is_written.ensures ∙ c.if-is_written.false) in
    record { out = one_sent next (subst (λ l. Appends b b l) (sym none) (Appends-nil b)); fine = inv.fine; blank = inv.blank; widest = inv.widest }

pub returns-in_err-write_whole-clause-written : goal.returns-in_err-write_whole-clause-written
returns-in_err-write_whole-clause-written g c =
    let p = c.args.plan.now in
    let system = c.args.system in
    let cells = c.cells-cells in
    let inv = c.loop-from.invariant in
    let own = take (c.end_of-to.result - c.loop-from.from) (drop c.loop-from.from cells.result.now) in
    let next = next_sent c.index-cells-from.result inv.out cells.ensures.cells cells.ensures.held cells.ensures.order c.loop-from-test.true c.id-id.ensures.value c.end_of-to.ensures.end c.end_of-to.ensures.bound in
    let shown = is_shown p system own c.id-id.result (sym c.is_written.ensures ∙ c.if-is_written.true) in
    let (rest, split) = lines_around p c.args.epoch.now.epoch system (satellites system) next.next next.most in
    part_written rest _ c.from_residual.result c.from_residual.ensures.1 (record { done = _; is = split; out = next.out; fine = inv.fine; widest = inv.widest })
    (ap (λ l. l ++ rest) (sym next.line ∙ shown)) c.put_satellite_line-size.ensures.text c.in_err-write_whole.ensures.written

pub returns-clause-written : goal.returns-clause-written
returns-clause-written g c =
    let inv = c.loop-from.invariant in
    record { whole = all_sent inv.out c.cells-cells.ensures.cells (omega (arith, c.loop-from-test.false)); part = tt; device = (tt, inv.fine, inv.widest) }
