-- The plan of lists of signals, or its fault.
use Rattle.gnss_obs.proofs.Names.{◌≡◌, ℕ, ◌<◌, true, false, List, length, refl, sym, ap, ◌∙◌, subst, arith, ◌⊎◌, inl, inr, Result, Ok, Err, IfErr, MatchResult, if◌then◌else◌, is_ok, sum_by, systems, index_of, value_of, map_by, BySystem, has_signal, HasSignal, plan_by, signals_in, is_none_planned, AreRead, AreAdded, plan_with, System, PlanFault, UnknownCode, RepeatedCode, NothingPlanned, Memory, SignalAt, PlanValue, plan_of, indices, IsOf, DoneOr, IsDefined, IsMade, IsMemoryFaultOr, IsPlanResult, IsUnplanned, HasOwn, Below, value_mapped, sum_none, common_steps}
use Rattle.gnss_obs.proofs.FitLemmas.{unfit_not_of}

made : {A : Type 0} (May : Type 0) (P : PlanFault → Type 0) (Done : Type 0) (added : Result A PlanFault) (lists : BySystem (List SignalAt)) (result : Result PlanValue PlanFault) → DoneOr May P Done added
    → IsMade added lists result
    → MatchResult result (λ p. Done × (is_none_planned lists ≡ false) × (p ≡ plan_with (map_by indices lists)))
    (λ e. IsMemoryFaultOr May P e ⊎ (Done × (is_none_planned lists ≡ true) × (e ≡ NothingPlanned)))
made May P Done added lists result is m = grind arith

-- ---- the first fault

pub fault_at : (f : System → Result (List ℕ) PlanFault) (s : System) (e : PlanFault) → Below (λ t. is_ok (f t) ≡ true) (index_of s) → f s ≡ Err e → plan_by f ≡ Err e
fault_at f s e below is = grind (arith, common_steps)

-- The text of the system at an index is refused, and those of the systems before are not.
pub refused_at : (texts : BySystem (List ℕ)) (n : ℕ) (s : System) (e : PlanFault) → index_of s ≡ n → Below (λ t. is_ok (signals_in texts t) ≡ true) n
    → IsMemoryFaultOr (has_signal s (value_of s texts) ≡ true) (λ e. signals_in texts s ≡ Err e) e → IsMemoryFaultOr (HasSignal texts) (λ e. plan_of texts ≡ Err e) e
refused_at texts n s e at below (inl m) = inl (m.0, (s, subst (Below (λ t. is_ok (signals_in texts t) ≡ true)) (sym at) below, m.1))
refused_at texts n s e at below (inr is) = inr (fault_at (signals_in texts) s e (subst (Below (λ t. is_ok (signals_in texts t) ≡ true)) (sym at) below) is)

-- ---- of texts

none_alike : (lists : BySystem (List SignalAt)) → is_none_planned (map_by indices lists) ≡ is_none_planned lists
none_alike lists = grind (arith, common_steps)

read_plan : (f : System → Result (List ℕ) PlanFault) (lists : BySystem (List ℕ)) → ((s : System) → f s ≡ Ok (value_of s lists)) → plan_by f ≡ (if is_none_planned lists then Err NothingPlanned else Ok (plan_with lists))
read_plan f lists each = grind (arith, common_steps)

pub plan_read : {A : Type 0} (added : Result A PlanFault) (texts : BySystem (List ℕ)) (lists : BySystem (List SignalAt)) (result : Result PlanValue PlanFault)
    → DoneOr (HasSignal texts) (λ e. plan_of texts ≡ Err e) (AreRead texts lists) added → IsMade added lists result → IsDefined (HasSignal texts) (plan_of texts) result
plan_read added texts lists result is m = by result (made (HasSignal texts) (λ e. plan_of texts ≡ Err e) (AreRead texts lists) added lists result is m) where
  plan : AreRead texts lists → plan_of texts ≡ (if is_none_planned lists then Err NothingPlanned else Ok (plan_with (map_by indices lists)))
  plan read = read_plan (signals_in texts) (map_by indices lists) (λ s. (read s).0 ∙ ap Ok (sym (value_mapped s indices lists))) ∙ ap (λ b. if b then Err NothingPlanned else Ok (plan_with (map_by indices lists))) (none_alike lists)

  by : (result : Result PlanValue PlanFault)
      → MatchResult result (λ p. AreRead texts lists × (is_none_planned lists ≡ false) × (p ≡ plan_with (map_by indices lists)))
      (λ e. IsMemoryFaultOr (HasSignal texts) (λ e. plan_of texts ≡ Err e) e ⊎ (AreRead texts lists × (is_none_planned lists ≡ true) × (e ≡ NothingPlanned)))
      → IsDefined (HasSignal texts) (plan_of texts) result
  by (Ok p) h = plan h.0 ∙ rw (h.1, h.2) refl
  by (Err e) (inl bad) = bad
  by (Err e) (inr none) = inr (plan none.0 ∙ rw (none.1, none.2) refl)

-- ---- of lists

pub plan_added : {A : Type 0} (added : Result A PlanFault) (signals lists : BySystem (List SignalAt)) (result : Result PlanValue PlanFault)
    → DoneOr (HasOwn signals) (IsUnplanned signals) (AreAdded signals lists) added → IsMade added lists result → IsPlanResult signals result
plan_added added signals lists result is m = grind (arith, common_steps)

-- If signals are those of their systems, and there is one, the only fault is `Memory`.
pub memory_alone : (lists : BySystem (List SignalAt)) (result : Result PlanValue PlanFault) → IsPlanResult lists result → ((s : System) → IsOf s (value_of s lists))
    → 0 < sum_by (λ s. length (value_of s lists)) systems → IfErr result (λ e. e ≡ Memory)
memory_alone lists (Ok p) is each some = tt
memory_alone lists (Err e) (inl m) each some = m.0
memory_alone lists (Err e) (inr bad) each some = absurd (by e bad) where
  by : (e : PlanFault) → IsUnplanned lists e → ⊥
  by (UnknownCode s place) u = unfit_not_of s (value_of s lists) _ u.1 (each s)
  by (RepeatedCode s place) u = unfit_not_of s (value_of s lists) _ u.1 (each s)
  by NothingPlanned u = let none = sum_none (λ s. length (value_of s lists)) (λ s. ap length (u s)) in absurd (grind (arith, some, none))
  by _ u = u
