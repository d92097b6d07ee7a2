use Rattle.rinex_file.proofs.Names.{systems, sum_by, ◌≡◌, ◌*◌, ◌≤◌, if◌then◌else◌, nat_lt, take, satellites, most_satellites, planned_in}
use Rattle.rinex_file.proofs.read.parser_state.most_rows.Given as goal

abbrev pub invariant-loop-i : goal.invariant-loop-i
invariant-loop-i l =
    record {
      sum : l.most ≡ sum_by (λ s. if nat_lt 0 (planned_in l.head.shown.plan s) then satellites s else 0) (take l.i systems);
      few : l.most ≤ most_satellites * l.i;
    }
