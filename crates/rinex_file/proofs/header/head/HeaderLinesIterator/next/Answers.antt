use Rattle.rinex_file.proofs.HeaderRows.Agree.{line_next}
use Rattle.rinex_file.proofs.Names.{shown_by, arith, ◌≡◌, ◌∷◌, ◌+◌, suc, lines_after, common_steps}
use Rattle.rinex_file.proofs.header.head.HeaderLinesIterator.next.Goals.{After-line_of}
use Rattle.rinex_file.proofs.header.head.HeaderLinesIterator.next.Goals as goal

-- the line that was returned, and those that are left
steps : (c : After-line_of) → c.args.self.now ≡ c.line_of.result.items ∷ lines_after (shown_by c.self.inside.head) (c.in_ok-place.place + 1)
steps c =
    let h = shown_by c.self.inside.head in
    let place = c.in_ok-place.place in
    let next : suc place ≡ place + 1 = omega arith in
    grind (arith, common_steps, c.in_ok-place.ensures.same, c.in_ok-place.ensures.bound, c.in_ok-place.ensures.here, line_next)

pub returns-clause-steps : goal.returns-clause-steps
returns-clause-steps c = steps c

pub returns-clause-goes : goal.returns-clause-goes
returns-clause-goes c = grind (arith, common_steps, steps)
