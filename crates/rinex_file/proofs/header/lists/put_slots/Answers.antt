use Rattle.rinex_file.proofs.HeaderRows.Slots.{at, one_slot, put_elsewhere, put_here, slots_taken}
use Rattle.rinex_file.proofs.Names.{arith, ◌≡◌, ◌∙◌, ◌∷◌, ◌++◌, ◌+◌, ◌/◌, ◌<◌, [], sym, ap, append-nil, length, length-append, slots_of, take, Option, ℕ, common_steps}
use Rattle.rinex_file.proofs.header.lists.put_slots.Goals as goal

pub loop-i-preserved : goal.loop-i-preserved
loop-i-preserved c =
    let channels = c.args.channels.now in
    let i = c.loop-i.i in
    let inv = c.loop-i.invariant in
    let few = inv.few in
    let before = inv.before in
    let size = inv.size in
    let slots = c.are_channels.ensures.slots in
    let less : i < length channels = omega (arith, slots, c.loop-i-test.true) in
    let number = sym c.number.ensures.value in
    let next = λ (o : Option ℕ) (e : c.number.result ≡ o). slots_taken channels i less ∙ ap (λ (o : Option ℕ). slots_of (take i channels) ++ one_slot (i + 1) o) (number ∙ e) in
    elim c.match-number.branch [
      | goal.in-Some w ↦
          let s = at (i + 1) w.in-Some.number in
          let grown : slots_of (take (i + 1) channels) ≡ slots_of (take i channels) ++ s ∷ [] = next _ w.in-Some.is in
          let more = ap length grown ∙ length-append (slots_of (take i channels)) (s ∷ []) in
          elim w.if-before-row.branch [
            | goal.then-before-row v ↦ record {
              range = omega (arith, c.loop-i-test.true);
              few = omega (arith, w.before-is, few);
              before = omega (arith, w.before-is, before, more);
              text = rw (w.content-is, v.content-is, grown) (put_here (slots_of (take i channels)) s c.args.content.now.items inv.text v.put_slot.ensures.text (ap (λ (k : ℕ). k / 8) (sym before) ∙ v.if-before-row.true));
              size = rw (w.content-is, v.content-is) (let put = v.put_slot.ensures.short in omega (arith, put, size));
            }
            | goal.else-before-row v ↦ record {
              range = omega (arith, c.loop-i-test.true);
              few = omega (arith, w.before-is, few);
              before = omega (arith, w.before-is, before, more);
              text = rw (w.content-is, v.content-is, grown) (put_elsewhere (slots_of (take i channels)) s c.args.content.now.items inv.text (λ e. v.if-before-row.false (ap (λ (k : ℕ). k / 8) before ∙ e)));
              size = rw (w.content-is, v.content-is) (omega (arith, size));
            }
          ]
      | goal.in_default w ↦
          let same : slots_of (take (i + 1) channels) ≡ slots_of (take i channels) = next _ w.in_default.is ∙ append-nil (slots_of (take i channels)) in
          grind (arith, common_steps, c.loop-i-test.true)
    ]
