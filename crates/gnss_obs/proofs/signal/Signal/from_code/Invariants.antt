use Rattle.gnss_obs.proofs.Names.{◌≡◌, drop, position, bytes_eq, position_from, table}
use Rattle.gnss_obs.proofs.signal.Signal.from_code.Given as goal

-- None of the rows so far has the code.
abbrev pub invariant-loop-index : goal.invariant-loop-index
invariant-loop-index l = position_from (λ e. bytes_eq e.code l.wanted) l.index (drop l.index l.entries) ≡ position (λ e. bytes_eq e.code l.wanted) (table l.system)
