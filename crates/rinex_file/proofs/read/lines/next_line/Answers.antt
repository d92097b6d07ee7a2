use Rattle.rinex_file.proofs.Reading.Lines.{not_nil, consumed_none, moved_taken, line_whole, still_endless}
use Rattle.rinex_file.proofs.Names.{leaves_all, leaves_more, arith, ◌≡◌, ◌∙◌, subst, ℕ, ◌<◌, [], Bool, false, List, length, Option, Found, IsFound, has, MovesBytes, Consumes-nil, most_line, common_steps}
use Rattle.rinex_file.proofs.read.lines.next_line.Goals as goal

-- what was found in the place of more bytes is found after those so far
found_after : (f : Found) (bytes : List ℕ) (left : Option (List ℕ)) {first old : ℕ} (new : ℕ) → has 10 bytes ≡ false → length bytes < most_line → old ≡ first → IsFound f [] left old new → IsFound f bytes left first new
found_after f bytes left new endless few same found = grind (arith, common_steps, not_nil)

pub returns-in-Some-clause-taken : goal.returns-in-Some-clause-taken
returns-in-Some-clause-taken g c = (consumed_none _ _ _ _ c.loop-block.invariant.taken c.fill.ensures.same, leaves_more _ _ _ c.loop-block.invariant.left c.fill.ensures.left)

pub returns-then-move_to-clause-taken : goal.returns-then-move_to-clause-taken
returns-then-move_to-clause-taken g c =
    (moved_taken _ _ _ c.loop-block.invariant.taken c.fill.ensures.same c.move_to.ensures, leaves_more _ _ _ c.loop-block.invariant.left c.fill.ensures.left)

pub returns-then-move_to-clause-found : goal.returns-then-move_to-clause-found
returns-then-move_to-clause-found g c = grind (arith, c.loop-block.invariant.endless, c.if-move_to.true, c.move_to.ensures, c.in_default.ensures.some.1, c.loop-block.invariant.same, line_whole)

pub loop-block-preserved : goal.loop-block-preserved
loop-block-preserved g c =
    let inv = c.loop-block.invariant in
    let moves = subst (λ (b : Bool). MovesBytes b c.fill.new.self c.move_to.new.self c.loop-block.line.items c.move_to.new.line.items) c.if-move_to.false c.move_to.ensures in
    record {
      taken = moved_taken _ _ _ inv.taken c.fill.ensures.same moves;
      endless = still_endless _ _ _ _ inv.endless moves;
      within = moves.short;
      left = leaves_more _ _ _ inv.left c.fill.ensures.left;
      same = c.in_default.ensures.some.1 ∙ inv.same;
    }

pub loop-block-init : goal.loop-block-init
loop-block-init g c = grind (arith, Consumes-nil, leaves_all)

pub returns-in-Some-clause-found : goal.returns-in-Some-clause-found
returns-in-Some-clause-found g c = grind (arith, c.loop-block.invariant.endless, c.loop-block-test.true, c.is_full.ensures.value, c.loop-block.invariant.within, c.loop-block.invariant.same, c.in-Some.ensures.none, found_after)
