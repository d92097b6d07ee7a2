use Rattle.rinex_file.proofs.Names.{AreChannels, IsLineOfSlots, List, SlotNumber, last_slot, length, slots_of, take, ℕ, ◌*◌, ◌≡◌, ◌≤◌}
use Rattle.rinex_file.proofs.read.slots.take_slots.Given as goal

-- if the line is that of these slots, those so far were added
abbrev pub invariant-loop-index : goal.invariant-loop-index
invariant-loop-index l = record {
  are : AreChannels l.channels;
  from : 8 * l.row ≤ l.index;
  to : l.index ≤ l.end;
  last : l.last ≡ last_slot 0 (slots_of l.channels);
  size : length (slots_of l.channels) ≡ l.index;
  grows : take (8 * l.row) (slots_of l.channels) ≡ slots_of l.fn.channels;
  read : (count : ℕ) (all : List SlotNumber) → IsLineOfSlots l.row l.line count (slots_of l.fn.channels) all → l.end ≤ length all → slots_of l.channels ≡ take l.index all;
}
