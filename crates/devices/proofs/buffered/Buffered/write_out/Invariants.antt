use Rattle.devices.proofs.Names.{◌≡◌, ◌≤◌, ◌-◌, length, drop, true, vec_capacity, Keeps, append_known, buffer_bytes, contents_of}
use Rattle.devices.proofs.buffered.Buffered.write_out.Given as goal

abbrev pub invariant-loop-self : goal.invariant-loop-self
invariant-loop-self g l = record {
  within : l.self-inside.sent ≤ length l.self-inside.bytes.items;
  held : length l.self-inside.bytes.items ≤ buffer_bytes;
  room : buffer_bytes ≤ vec_capacity l.self-inside.bytes;
  failed : l.self-inside.failed ≡ true;
  bytes : Keeps (contents_of g.W.Write.contents l.fn.self) (append_known (g.W.Write.contents l.self-inside.device) (drop l.self-inside.sent l.self-inside.bytes.items));
}

abbrev pub decreases-loop-self : goal.decreases-loop-self
decreases-loop-self g l = length l.self-inside.bytes.items - l.self-inside.sent
