use Rattle.rinex_file.proofs.Names.{IsLineOfTypes, ℕ, List, ◌≡◌, ◌≤◌, length, take, indices, IsOf, signals_begun}
use Rattle.rinex_file.proofs.read.types.take_signals.Given as goal

-- if the line is that of these signals, those so far were appended
abbrev pub invariant-loop-place : goal.invariant-loop-place
invariant-loop-place l = record {
  of : IsOf l.fn.system l.signals;
  grows : take (length l.fn.signals) l.signals ≡ l.fn.signals;
  size : length l.signals ≡ l.place;
  from : signals_begun l.row ≤ l.place;
  to : l.place ≤ l.end;
  read : (before : ℕ) (all : List ℕ) → IsLineOfTypes l.fn.system l.row l.line before (indices l.fn.signals) all → length all ≡ l.fn.count → indices l.signals ≡ take l.place all;
}
