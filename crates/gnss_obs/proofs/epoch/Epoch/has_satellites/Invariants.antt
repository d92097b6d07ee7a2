use Rattle.gnss_obs.proofs.Names.{◌≡◌, false, nat_lt, cells_of, written_among, satellites_in, Below}
use Rattle.gnss_obs.proofs.epoch.Epoch.has_satellites.Given as goal

-- The systems so far have no satellite to write.
abbrev pub invariant-loop-i : goal.invariant-loop-i
invariant-loop-i l = Below (λ s. nat_lt 0 (written_among (cells_of s l.self.epoch) (satellites_in s)) ≡ false) l.i
