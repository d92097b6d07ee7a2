-- The signals that a text of codes adds to earlier ones are those that its codes name, each once; a plan is the two
-- lists that are added to none.
use Rattle.gnss_obs.proofs.Names.{◌≡◌, ℕ, length, Bool, true, false, List, [], ◌∷◌, ◌++◌, nat_eq, refl, sym, ap, ◌∙◌, subst, arith, append_assoc, append-nil, Option, Some, None, Ok, Err, if◌then◌else◌, list_any, IsDistinct, nat_eq_equiv, IsDistinct-push, System, SignalAt, signal_of_code, PlanFault, RepeatedCode, signals_after, one_signal_more, CodesNameSignals, common_steps}
use Rattle.gnss_obs.proofs.PlanLaws.{of_where}
use Rattle.gnss_obs.proofs.laws.plans.Goals as goal

-- These signals after the earlier ones.
record Read (system : System) (earlier : List ℕ) (codes : List (List ℕ)) (all : List ℕ) : Type 0 where
  more : List ℕ
  is : all ≡ earlier ++ more
  spelled : CodesNameSignals system codes more
  apart : IsDistinct nat_eq all

no_fault : (e : PlanFault) (all : List ℕ) → Err e ≡ Ok all → ⊥
no_fault e all h = grind (arith, h)

read : (system : System) (codes : List (List ℕ)) (earlier all : List ℕ) → IsDistinct nat_eq earlier → signals_after system earlier codes ≡ Ok all → Read system earlier codes all
read system [] earlier all apart h = grind (arith, common_steps, append-nil)
read system (c ∷ codes) earlier all apart h = by (signal_of_code system c) refl (λ more d e. read system codes more all d e) where
  by : (o : Option SignalAt) → signal_of_code system c ≡ o
      → ((more : List ℕ) → IsDistinct nat_eq more → signals_after system more codes ≡ Ok all → Read system more codes all) → Read system earlier (c ∷ codes) all
  by None e next = absurd (no_fault _ all (ap (λ o. one_signal_more system earlier o (λ signals. signals_after system signals codes)) (sym e) ∙ h))
  by (Some s) e next = by_new (list_any (nat_eq s.index) earlier) refl where
    here : one_signal_more system earlier (Some s) (λ signals. signals_after system signals codes) ≡ Ok all
    here = ap (λ o. one_signal_more system earlier o (λ signals. signals_after system signals codes)) (sym e) ∙ h

    by_new : (b : Bool) → list_any (nat_eq s.index) earlier ≡ b → Read system earlier (c ∷ codes) all
    by_new true f = absurd (no_fault _ all (ap (λ b. if b then Err (RepeatedCode system (length earlier)) else signals_after system (earlier ++ s.index ∷ []) codes) (sym f) ∙ here))
    by_new false f =
        let r = next (earlier ++ s.index ∷ []) (IsDistinct-push nat_eq_equiv earlier s.index apart f)
        (ap (λ b. if b then Err (RepeatedCode system (length earlier)) else signals_after system (earlier ++ s.index ∷ []) codes) (sym f) ∙ here) in
        record {
          more = s.index ∷ r.more;
          is = r.is ∙ append_assoc earlier (s.index ∷ []) r.more;
          spelled = (e ∙ ap (λ c. Some (record { system = c; index = s.index })) (of_where system _ s e).0, r.spelled);
          apart = r.apart;
        }

pub returns : goal.returns
unfolding IsDistinct
returns c = λ system codes signals h. let r = read system codes [] signals tt h in (subst (CodesNameSignals system codes) (sym r.is) r.spelled, r.apart)
