use Rattle.rinex_file.proofs.HeaderRows.Slots.{at, has_slot, last_bound, last_push, no_slot, number_set, slot_added, slots_are}
use Rattle.rinex_file.proofs.Names.{AreChannels, arith, ◌≡◌, ◌∙◌, ◌∷◌, ◌++◌, ◌-◌, ◌*◌, ◌<◌, [], sym, ap, ap₂, digits_in, get_or, last_slot, length, length-append, none-some, same_Some, slots_of, subst, take, take-append-le, with_number, List, SlotNumber, common_steps}
use Rattle.rinex_file.proofs.read.slots.take_slots.Goals as goal

pub returns-in_err-number-clause-none : goal.returns-in_err-number-clause-none
returns-in_err-number-clause-none c = λ refused count all l few.
    let s = has_slot l c.loop-index.invariant.from c.loop-index-test.true c.requires.end.1 few in
    none-some _ (c.in_err-number.ensures.read _ s.number (c.columns-in-loop-index.ensures.value ∙ s.channel))

pub returns-then-slot-last-clause-none : goal.returns-then-slot-last-clause-none
returns-then-slot-last-clause-none c = λ refused count all l few.
    let s = has_slot l c.loop-index.invariant.from c.loop-index-test.true c.requires.end.1 few in
    let slot = c.digits_in-slot.ensures.value ∙ ap digits_in c.columns.ensures.value ∙ s.slot in
    let last = c.loop-index.invariant.last ∙ ap (last_slot 0) (c.loop-index.invariant.read count all l few) in
    grind (arith, common_steps, c.then-slot-last.branch)

pub loop-index-preserved : goal.loop-index-preserved
loop-index-preserved c =
    let inv = c.loop-index.invariant in
    let channels = c.loop-index.channels in
    let slot = c.digits_in-slot.result in
    let n = c.in_ok-number.number in
    let set : c.set.new.self ≡ with_number channels slot n = c.set.ensures in
    let low : last_slot 0 (slots_of channels) < slot = let last = inv.last in omega (arith, last, c.if-slot-last.false) in
    let added = ap slots_of set ∙ slot_added channels slot n inv.are low c.if-slot.false in
    let size = length-append (slots_of channels) (at slot n ∷ []) in
    let old = inv.size in
    let from = inv.from in
    record {
      are = subst AreChannels (sym set) (number_set channels (slot - 1) n inv.are c.in_ok-number.ensures.bound);
      from = omega (arith, from);
      to = omega (arith, c.loop-index-test.true);
      last = sym (ap (last_slot 0) added ∙ last_push 0 (slots_of channels) (at slot n));
      size = ap length added ∙ omega (arith, size, old);
      grows = ap (take (8 * c.args.row)) added ∙ take-append-le (8 * c.args.row) (slots_of channels) (at slot n ∷ []) (omega (arith, old, from)) ∙ inv.grows;
      read = λ count all l few.
          let s = has_slot l from c.loop-index-test.true c.requires.end.1 few in
          let number = same_Some _ _ (c.in_ok-number.ensures.read _ s.number (c.columns-in-loop-index.ensures.value ∙ s.channel)) in
          let here : at slot n ≡ get_or all c.loop-index.index no_slot = ap₂ at (c.digits_in-slot.ensures.value ∙ ap digits_in c.columns.ensures.value ∙ s.slot) number in
          added ∙ ap₂ (λ (xs : List SlotNumber) x. xs ++ x ∷ []) (inv.read count all l few) here ∙ sym s.more;
    }

pub returns-clause-bound : goal.returns-clause-bound
returns-clause-bound c = grind (arith, c.loop-index.invariant, last_bound, slots_are)

pub returns-clause-taken : goal.returns-clause-taken
returns-clause-taken c = λ count all l few.
    let to = c.loop-index.invariant.to in
    c.loop-index.invariant.read count all l few ∙ ap (λ n. take n all) (omega (arith, to, c.loop-index-test.false))
