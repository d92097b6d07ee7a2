use Rattle.rinex_file.proofs.HeaderRows.Types.{columns}
use Rattle.rinex_file.proofs.Names.{◌≡◌, ◌≤◌, ◌+◌, ◌-◌, ◌*◌, ◌++◌, length, take, drop, indices, types_of, codes_of}
use Rattle.rinex_file.proofs.header.lists.put_types.Given as goal

-- the types so far are in the line
abbrev pub invariant-loop-i : goal.invariant-loop-i
invariant-loop-i l = record {
  from : 13 * l.row ≤ l.i;
  to : l.i ≤ 13 * l.row + 13;
  text : l.content.items ≡ l.fn.content.items ++ columns (take (l.i - 13 * l.row) (drop (13 * l.row) (types_of (codes_of l.fn.system (indices l.signals)))));
  size : length l.content.items ≤ length l.fn.content.items + 4 * (l.i - 13 * l.row);
}
