use Rattle.rinex_file.proofs.Names.{◌≡◌, ◌+◌, ◌*◌, ◌∷◌, ◌++◌, take, flat_map, letter, padded, signal_text, number_of}
use Rattle.rinex_file.proofs.write.satellite.put_values.Given as goal

-- the columns so far have the first signals
abbrev pub invariant-loop-value : goal.invariant-loop-value
invariant-loop-value l = record {
  shown : take l.size l.row ≡ (letter l.fn.system ∷ padded 2 (number_of l.fn.system l.fn.id)) ++ flat_map signal_text (take l.value-index l.values);
  size : l.size ≡ 3 + 64 * l.value-index;
}
