use Rattle.rinex_file.proofs.HeaderRows.Steps.{skipped, same_on, here}
use Rattle.rinex_file.proofs.Names.{arith, ◌≡◌, ◌∙◌, sym, ap, subst, suc, ◌+◌, false, row_at, known_line, SameFrom}
use Rattle.rinex_file.proofs.read.head_so_far.HeadSoFar.place_from.Goals as goal

pub loop-place-init : goal.loop-place-init
loop-place-init c = here c.args.self.now c.args.line.now c.args.from c.requires

pub loop-place-preserved : goal.loop-place-preserved
loop-place-preserved c =
    let k = c.args.self.now in
    let line = c.args.line.now in
    let at = c.loop-place.place in
    let next : suc at ≡ at + 1 = omega arith in
    let lacks : known_line k line (row_at at) ≡ false = ap (known_line k line) (sym c.row_at.ensures) ∙ sym c.has_line.ensures ∙ c.loop-place-test.true in
    same_on k line c.args.from at (at + 1) c.loop-place.invariant (subst (λ n. SameFrom k line at n) next (skipped k line c.loop-place.invariant.expected lacks c.requires.lists c.loop-place.invariant.read c.loop-place.invariant.unread))
