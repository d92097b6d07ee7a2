use Rattle.rinex_file.proofs.Names.{HasReadOn, ◌≡◌, ◌-◌, ◌+◌, ◌≤◌, [], List, ℕ, Option, HasReadEpochs, Stamped, most_lines}
use Rattle.rinex_file.proofs.read.epochs.EpochReader.begin.Given as goal

-- the epochs that were read before
abbrev pub invariant-loop-self : goal.invariant-loop-self
invariant-loop-self g l =
    let remaining = g.R.Read.remaining in
    record {
      read : (es : List Stamped) (input : Option (List ℕ)) → HasReadEpochs l.fn.self es input (remaining l.fn.reader.inner)
          → HasReadEpochs l.self es input (remaining l.reader.inner) × (l.fn.self.count ≤ l.self.count)
          × ((es ≡ [] → ⊥) → l.self.parser_state.head ≡ l.fn.self.parser_state.head);
      some : (es : List Stamped) × (input : Option (List ℕ)) × HasReadEpochs l.fn.self es input (remaining l.fn.reader.inner);
      reads : HasReadOn remaining l.fn.reader l.reader;
    }

abbrev pub decreases-loop-self : goal.decreases-loop-self
decreases-loop-self g l = most_lines + 1 - l.self.count
