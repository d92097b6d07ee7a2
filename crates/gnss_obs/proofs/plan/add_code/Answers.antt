use Rattle.gnss_obs.proofs.Names.{◌≡◌, ◌++◌, ◌∷◌, [], ℕ, List, inl, inr, Result, Ok, Err, Some, MatchResult, System, SignalAt, signal_of_code, PlanFault, UnknownCode, RepeatedCode, IsOf, TakesCode, RefusesCode, IsMemoryFaultOr, IsUnfitAfter, MayAdd, MayTakeCode, indices, arith, common_steps}
use Rattle.gnss_obs.proofs.FitLemmas.{not_before}
use Rattle.gnss_obs.proofs.PlanLaws.{repeated, accepted, of_where}
use Rattle.gnss_obs.proofs.plan.add_code.Goals as goal

-- The fault of a code's signal is that of the code.
refused : (system : System) (code : List ℕ) (ss : List SignalAt) (s : SignalAt) (e : PlanFault) → signal_of_code system code ≡ Some s → IsUnfitAfter system ss s e
    → RefusesCode system code ss e
refused system code ss s (RepeatedCode named place) is u = grind (arith, common_steps, repeated)
refused system code ss s (UnknownCode named place) is u = absurd (u.2 (of_where system _ s is).0)
refused system code ss s _ is u = absurd u

added : {A : Type 0} (system : System) (code : List ℕ) (ss new : List SignalAt) {s : SignalAt} (r : Result A PlanFault) → signal_of_code system code ≡ Some s
    → MatchResult r (λ _. (new ≡ ss ++ s ∷ []) × IsOf system new) (IsMemoryFaultOr (MayAdd system ss s) (IsUnfitAfter system ss s))
    → MatchResult r (λ _. TakesCode system code ss new) (IsMemoryFaultOr (MayTakeCode system code ss) (RefusesCode system code ss))
added system code ss new (Ok u) is h = grind (arith, common_steps, accepted, not_before)
added system code ss new {s} (Err e) is (inl m) = inl (m.0, (indices (ss ++ s ∷ []), λ rest. accepted system ss (signal_of_code system code) s rest is m.1.1))
added system code ss new {s} (Err e) is (inr u) = inr (refused system code ss s e is u)

pub returns : goal.returns
returns c = added c.args.system c.args.code.now c.args.signals.now _ c.add_signal.result (grind (arith, common_steps)) c.add_signal.ensures
