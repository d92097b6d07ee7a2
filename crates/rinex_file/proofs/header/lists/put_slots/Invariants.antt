use Rattle.rinex_file.proofs.HeaderRows.Slots.{in_line}
use Rattle.rinex_file.proofs.Names.{◌≡◌, ◌≤◌, ◌+◌, ◌*◌, ◌++◌, flat_map, length, take, slot_count, slot_text, slots_of}
use Rattle.rinex_file.proofs.header.lists.put_slots.Given as goal

-- the slots so far that have a channel are in the line
abbrev pub invariant-loop-i : goal.invariant-loop-i
invariant-loop-i l = record {
  range : l.i ≤ slot_count;
  few : l.before ≤ l.i;
  before : l.before ≡ length (slots_of (take l.i l.channels));
  text : l.content.items ≡ l.fn.content.items ++ flat_map slot_text (in_line l.row (slots_of (take l.i l.channels)));
  size : length l.content.items ≤ length l.fn.content.items + 7 * l.i;
}
