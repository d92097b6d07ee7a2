use Rattle.rinex_file.proofs.HeaderRows.Slots.{count_is, line_judged, no_room, too_many}
use Rattle.rinex_file.proofs.Names.{is_taken, arith, refl, ◌≡◌, ◌∙◌, ◌*◌, ap, suc, length, min, take, take_min, slots_of}
use Rattle.rinex_file.proofs.read.slots.SlotsSoFar.take.Goals as goal

pub returns-then-count : goal.returns-then-count
returns-then-count c = λ all l. too_many l (count_is l c.read_count-count.ensures.later c.read_count-count.ensures.first) c.if-count.true

pub returns-in_err-last : goal.returns-in_err-last
returns-in_err-last c = rw c.from_residual.ensures (λ all l.
    let size = count_is l c.read_count-count.ensures.later c.read_count-count.ensures.first in
    c.in_err-last.ensures.none refl _ all l (omega (arith, size, c.min-end.ensures)))

pub returns-then-most : goal.returns-then-most
returns-then-most c = λ all l.
    let size = count_is l c.read_count-count.ensures.later c.read_count-count.ensures.first in
    no_room l size (omega (arith, c.min-end.ensures)) (c.in_ok-last.ensures.taken _ all l (omega (arith, size, c.min-end.ensures))) c.in_ok-last.ensures.last c.if-most.true

pub returns : goal.returns
returns c =
    let count = c.read_count-count.result in
    let row = c.args.row in
    let slots = slots_of c.take_slots.new.channels in
    let size : length slots ≡ min (8 * suc row) count = c.in_ok-last.ensures.size ∙ omega (arith, c.min-end.ensures) in
    let last = c.in_ok-last.ensures.last in
    rw (is_taken _ _ c.then_some.ensures) (line_judged c.is_same.result c.is_same.ensures (c.as_slice.ensures.value ∙ c.slots_with-again.ensures) c.read_count-count.ensures.later size
    (omega (arith, last, size, c.if-most.false, c.min-end.ensures)) c.in_ok-last.ensures.grows
    (λ all l.
    let same = count_is l c.read_count-count.ensures.later c.read_count-count.ensures.first in
    let end : c.min-end.result ≡ min (8 * suc row) (length all) = omega (arith, same, c.min-end.ensures) in
    (same, c.in_ok-last.ensures.taken _ all l (omega (arith, same, c.min-end.ensures)) ∙ ap (λ n. take n all) end ∙ take_min (8 * suc row) all)))
