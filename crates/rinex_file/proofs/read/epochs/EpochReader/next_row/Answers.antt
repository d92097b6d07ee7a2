use Rattle.rinex_file.proofs.Reading.Accepted.{first_epochs, open_part, row_planned, row_read, whole_part}
use Rattle.rinex_file.proofs.Names.{refused, Bool, Err, ExpectsRow, HasReadRows, List, Ok, Option, EpochReader, ReadFault, ReadsNextLine, ReadsRow, Result, Stamped, arith, common_steps, false, refl, subst, true, ℕ}
use Rattle.rinex_file.proofs.read.epochs.EpochReader.next_row.Goals as goal

pub returns-then-not-expects_row-clause-rows : goal.returns-then-not-expects_row-clause-rows
returns-then-not-expects_row-clause-rows g c = λ es e input part.
    let whole = whole_part es e c.args.self.now.parser_state.expected (refused c.expects_row.result _ c.expects_row.ensures c.if-not-expects_row.true) part in
    (whole, first_epochs whole.0, omega arith, refl)

pub next_line-requires : goal.next_line-requires
next_line-requires g c = grind (arith, common_steps, c.requires, c.expects_row.ensures, c.if-not-expects_row.false, open_part)

-- the line of a satellite was read, or there is a fault
row_or_fault : (old new : EpochReader) (es : List Stamped) (e : Stamped) (input before left : Option (List ℕ)) (r : Result Bool ReadFault) → ExpectsRow old.parser_state.expected → HasReadRows old es e input before
    → ReadsNextLine old new (record { epochs = es; rows = e.rows }) input left r → ReadsRow old new es e input left r
row_or_fault old new es e input before left (Ok true) inside part (after, read, counted, adds) = grind (arith, common_steps, row_planned, row_read old new es e input before left after inside part read adds)
row_or_fault old new es e input before left (Ok false) inside part (whole, expected, same) = absurd (subst ExpectsRow expected inside)
row_or_fault old new es e input before left (Err fault) inside part stops = stops.0

pub returns-clause-rows : goal.returns-clause-rows
returns-clause-rows g c = λ es e input part.
    let inside = c.expects_row.ensures.0 c.if-not-expects_row.false in
    row_or_fault c.args.self.now c.next_line.new.self es e input _ (g.R.Read.remaining c.next_line.new.reader.inner) c.next_line.result inside part (c.next_line.ensures.goes _ _ (open_part c.args.self.now.parser_state.expected inside part).0)
