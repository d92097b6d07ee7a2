use Rattle.rinex_file.proofs.HeaderRows.Slots.{at, slot_low, slot_high}
use Rattle.rinex_file.proofs.Names.{arith, ◌≡◌, ◌∙◌, ◌++◌, ◌∷◌, [], ◌+◌, ◌-◌, ◌/◌, ◌%◌, ◌<◌, ◌≤◌, ℕ, List, ap, ap₂, slot_count, slot_text}
use Rattle.rinex_file.proofs.header.lists.put_slot.Goals as goal

abbrev shown : ℕ → ℕ → ℕ → List ℕ
shown slot sign size = 82 ∷ (48 + slot / 10) ∷ (48 + slot % 10) ∷ 32 ∷ sign ∷ size ∷ 32 ∷ []

below : (slot n : ℕ) {sign size : ℕ} → slot ≤ slot_count → n < 7 → sign ≡ 45 → size ≡ 48 + ((n - 7) + (7 - n)) → shown slot sign size ≡ slot_text (at slot n)
below slot n few low sign size = ap₂ (shown slot) sign (size ∙ omega (arith, low)) ∙ slot_low slot n few low

above : (slot n : ℕ) {sign size : ℕ} → slot ≤ slot_count → 7 ≤ n → sign ≡ 32 → size ≡ 48 + ((n - 7) + (7 - n)) → shown slot sign size ≡ slot_text (at slot n)
above slot n few high sign size = ap₂ (shown slot) sign (size ∙ omega (arith, high)) ∙ slot_high slot n few high

pub returns : goal.returns
returns c = record {
  text = c.put.ensures.text ∙ ap (λ t. c.args.content.now.items ++ t) (elim c.if-number-lt7.branch [
    | goal.then-number-lt7 w ↦ below c.args.slot c.args.number c.requires.slot w.if-number-lt7.true w.sign-is (ap (λ k. 48 + k) c.abs_diff-size.ensures)
    | goal.else-number-lt7 w ↦ above c.args.slot c.args.number c.requires.slot w.if-number-lt7.false w.sign-is (ap (λ k. 48 + k) c.abs_diff-size.ensures)
  ]);
  short = c.put.ensures.short;
}
