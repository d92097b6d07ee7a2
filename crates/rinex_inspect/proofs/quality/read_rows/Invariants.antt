use Rattle.rinex_file.proofs.ReaderLaws.{HasReadOn}
use Rattle.rinex_inspect.proofs.Names.{◌≡◌, ◌-◌, ◌+◌, ◌≤◌, ◌++◌, ◌∷◌, [], List, ℕ, Option, length, most_lines, Stamped, HasReadRows, IsStart, plan_of, IsTableOf}
use Rattle.rinex_inspect.proofs.quality.read_rows.Given as goal

-- the lines that were read of the epoch were added to the table
abbrev pub invariant-loop-table : goal.invariant-loop-table
invariant-loop-table g l =
    let remaining = g.R.Read.remaining in
    record {
      read : (es : List Stamped) (e : Stamped) (input : Option (List ℕ)) → IsStart l.fn.time e → HasReadRows l.fn.file es e input (remaining l.fn.reader.inner)
          → (more : Stamped) × (more.time ≡ l.fn.time) × HasReadRows l.file es more input (remaining l.reader.inner)
          × (l.fn.file.count ≤ l.file.count) × (plan_of l.file ≡ plan_of l.fn.file)
          × ((xs : List Stamped) → length xs ≤ length es → IsTableOf l.fn.table xs → IsTableOf l.table (xs ++ more ∷ []));
      some : (es : List Stamped) × (e : Stamped) × (input : Option (List ℕ)) × (xs : List Stamped) × IsStart l.fn.time e × HasReadRows l.fn.file es e input (remaining l.fn.reader.inner)
          × IsTableOf l.fn.table xs × (length xs ≤ length es);
      reads : HasReadOn remaining l.fn.reader l.reader;
    }

abbrev pub decreases-loop-table : goal.decreases-loop-table
decreases-loop-table g l = most_lines + 1 - l.file.count
