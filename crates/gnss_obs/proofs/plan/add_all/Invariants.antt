use Rattle.gnss_obs.proofs.Names.{◌≡◌, [], value_of, IsOf, Passed}
use Rattle.gnss_obs.proofs.plan.add_all.Given as goal

-- The lists of the systems so far are those given, and fit; the others are empty.
abbrev pub invariant-loop-i : goal.invariant-loop-i
invariant-loop-i l = Passed (λ s list. (list ≡ (value_of s l.signals).now) × IsOf s (value_of s l.signals).now) (λ s list. list ≡ []) l.lists l.i
