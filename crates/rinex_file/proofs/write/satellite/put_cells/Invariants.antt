use Rattle.rinex_file.proofs.Names.{◌≡◌, ◌≤◌, ◌<◌, ◌^◌, ℕ, length, take, drop, entries_of, most_signals, IsBlankBut, HasColumns}
use Rattle.rinex_file.proofs.write.satellite.put_cells.Given as goal

-- the row has the values of the cells from here on
abbrev pub invariant-loop-at : goal.invariant-loop-at
invariant-loop-at l = record {
  columns : (used : ℕ) → IsBlankBut used l.fn.row → HasColumns used l.own (entries_of l.plan l.fn.system l.id (drop l.at l.cells)) l.row;
  front : take 3 l.row ≡ take 3 l.fn.row;
  within : l.at ≤ length l.cells;
  few : l.own < 2 ^ most_signals;
}

abbrev pub decreases-loop-at : goal.decreases-loop-at
decreases-loop-at l = l.at
