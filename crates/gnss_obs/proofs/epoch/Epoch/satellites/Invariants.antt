use Rattle.gnss_obs.proofs.Names.{◌≡◌, ◌≤◌, take, sum_by, cells_of, written_among, satellites_in, systems}
use Rattle.gnss_obs.proofs.epoch.Epoch.satellites.Given as goal

abbrev pub invariant-loop-i : goal.invariant-loop-i
invariant-loop-i l =
    record {
      count : l.count ≡ sum_by (λ s. written_among (cells_of s l.self.epoch) (satellites_in s)) (take l.i systems);
      bound : l.count ≤ sum_by satellites_in (take l.i systems);
    }
