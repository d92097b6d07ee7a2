use Rattle.rtcm_msg.proofs.Names.{◌≡◌, ◌+◌, ◌-◌, ◌*◌, ◌≤◌, ◌++◌, ℕ, List, length, map, AreShort, texts_at}
use Rattle.rtcm_msg.proofs.EquipmentLaws.{followed}
use Rattle.rtcm_msg.proofs.equipment.add_texts.Given as goal

-- the texts that were read, and what follows them
abbrev pub invariant-loop : goal.invariant-loop
invariant-loop l = (done : List (List ℕ)) × (map (λ t. t.now) l.texts.items ≡ map (λ t. t.now) l.initial.texts.items ++ done)
    × (texts_at l.bytes l.initial.at l.count ≡ followed done (texts_at l.bytes l.at (l.count - l.counter)))
    × (length l.texts.items ≡ length l.initial.texts.items + l.counter) × (l.counter ≤ l.count) × (l.at ≤ 36 + 32 * l.counter)
    × (AreShort l.initial.texts.items → AreShort l.texts.items)
