use Rattle.rinex_file.proofs.Names.{HasReadOn, ◌≡◌, ◌-◌, ◌+◌, ◌≤◌, List, ℕ, Option, HasReadRows, Stamped, most_lines, plan_of}
use Rattle.rinex_file.proofs.read.epochs.EpochReader.finish.Given as goal

-- satellites of the epoch that was begun
abbrev pub invariant-loop : goal.invariant-loop
invariant-loop g l =
    let remaining = g.R.Read.remaining in
    record {
      read : (es : List Stamped) (e : Stamped) (input : Option (List ℕ)) → HasReadRows l.fn.self es e input (remaining l.fn.reader.inner)
          → (more : Stamped) × (more.time ≡ e.time) × HasReadRows l.self es more input (remaining l.reader.inner)
          × (l.fn.self.count ≤ l.self.count) × (plan_of l.self ≡ plan_of l.fn.self);
      some : (es : List Stamped) × (e : Stamped) × (input : Option (List ℕ)) × HasReadRows l.fn.self es e input (remaining l.fn.reader.inner);
      reads : HasReadOn remaining l.fn.reader l.reader;
    }

abbrev pub decreases-loop : goal.decreases-loop
decreases-loop g l = most_lines + 1 - l.self.count
