use Rattle.rinex_file.proofs.Names.{◌≡◌, ◌≤◌, last_slot, slot_count, slots_of, take}
use Rattle.rinex_file.proofs.read.slots.last_slot.Given as goal

-- the last of the slots so far
abbrev pub invariant-loop-i : goal.invariant-loop-i
invariant-loop-i l = record {
  range : l.i ≤ slot_count;
  last : l.last ≡ last_slot 0 (slots_of (take l.i l.channels));
}
