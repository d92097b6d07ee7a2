use Rattle.rinex_file.proofs.Names.{◌≡◌, ◌<◌, ◌^◌, ℕ, List, take, SignalValues, most_signals, AreApart, HasColumns}
use Rattle.rinex_file.proofs.write.satellite.blank_columns.Given as goal

-- the columns of these signals are left to be blanked
abbrev pub invariant-loop-left : goal.invariant-loop-left
invariant-loop-left l = record {
  columns : (own : ℕ) (values : List SignalValues) → AreApart l.fn.places own → HasColumns l.fn.places own values l.fn.row → HasColumns l.left own values l.row;
  apart : (own : ℕ) → AreApart l.fn.places own → AreApart l.left own;
  front : take 3 l.row ≡ take 3 l.fn.row;
  few : l.left < 2 ^ most_signals;
}

abbrev pub decreases-loop-left : goal.decreases-loop-left
decreases-loop-left l = l.left
