use Rattle.rinex_file.proofs.Names.{◌≡◌, ◌*◌, take, length, All, flat_map, list_any, AreSignalValues, has_some_value, filled_to, signal_text}
use Rattle.rinex_file.proofs.read.row.put_each_in.Given as goal

-- the entries so far, and their columns
abbrev pub invariant-loop-i : goal.invariant-loop-i
invariant-loop-i l = record {
  each : All AreSignalValues (take l.i l.values);
  some : l.some ≡ list_any has_some_value (take l.i l.values);
  text : flat_map signal_text (take l.i l.values) ≡ take (64 * l.i) (filled_to (64 * length l.fn.values) l.text);
}
