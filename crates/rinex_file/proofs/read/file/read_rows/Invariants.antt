use Rattle.rinex_file.proofs.Names.{HasReadOn, ◌-◌, ◌+◌, ◌≤◌, List, ℕ, Option, HasReadRows, Stamped, begun_in, most_lines, with_rows}
use Rattle.rinex_file.proofs.read.file.read_rows.Given as goal

-- the satellites that were read are stored
abbrev pub invariant-loop-rows : goal.invariant-loop-rows
invariant-loop-rows g l =
    let remaining = g.R.Read.remaining in
    record {
      read : (es : List Stamped) (input : Option (List ℕ)) → HasReadRows l.fn.file es (begun_in l.fn.file) input (remaining l.fn.reader.inner)
          → HasReadRows l.file es (with_rows (begun_in l.fn.file) l.rows.items) input (remaining l.reader.inner) × (l.fn.file.count ≤ l.file.count);
      some : (es : List Stamped) × (input : Option (List ℕ)) × HasReadRows l.fn.file es (begun_in l.fn.file) input (remaining l.fn.reader.inner);
      reads : HasReadOn remaining l.fn.reader l.reader;
    }

abbrev pub decreases-loop-rows : goal.decreases-loop-rows
decreases-loop-rows g l = most_lines + 1 - l.file.count
