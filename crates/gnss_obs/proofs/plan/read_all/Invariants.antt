use Rattle.gnss_obs.proofs.Names.{◌≡◌, [], map_by, signals_in, ArePlanned, Passed}
use Rattle.gnss_obs.proofs.plan.read_all.Given as goal

-- The lists of the systems so far are those of their texts, the others are empty.
abbrev pub invariant-loop-i : goal.invariant-loop-i
invariant-loop-i l = Passed (λ s list. ArePlanned s (signals_in (map_by (λ t. t.now) l.texts) s) list) (λ s list. list ≡ []) l.lists l.i
