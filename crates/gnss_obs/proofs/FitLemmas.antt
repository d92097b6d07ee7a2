-- Signals that fit a plan, and those that don't.
use Rattle.gnss_obs.proofs.Names.{◌≡◌, ℕ, zero, suc, ◌<◌, ◌==◌, false, List, [], ◌∷◌, ◌++◌, length, take, get_or, All, nat_eq, refl, sym, ap, ◌∙◌, subst, arith, inl, inr, apart_from_distinct, IsDistinct-tail, All-head, All-tail, System, SignalAt, IsSignal, PlanFault, indices, IsOf, IsUnfitAfter, IsUnfit, IsMemoryFaultOr, MayAdd, BeginsWithOwn, list_any, IsDistinct, flip_false}
use Rattle.std.proofs.Math.Seq.{split_at}

-- The first signal is of the system if those before one are, and this one.
begin_own : (system : System) (ss : List SignalAt) (k : ℕ) (s : SignalAt) → k < length ss → s ≡ get_or ss k s → IsOf system (take k ss) → s.system ≡ system → BeginsWithOwn system ss
begin_own system [] k s less is fits own = absurd (omega (arith, less))
begin_own system (x ∷ ss) zero s less is fits own = sym (ap (λ (r : SignalAt). r.system) is) ∙ own
begin_own system (x ∷ ss) (suc k) s less is fits own = (All-head (λ (r : SignalAt). (r.system ≡ system) × IsSignal r) x (take k ss) fits.each).0

-- The first signal that doesn't fit.
pub unfit_at : {system : System} (ss : List SignalAt) {before : List SignalAt} (k : ℕ) {s : SignalAt} {fault : PlanFault} → k < length ss → s ≡ get_or ss k s → before ≡ take k ss
    → IsOf system (take k ss) → IsMemoryFaultOr (MayAdd system before s) (IsUnfitAfter system before s) fault → IsMemoryFaultOr (BeginsWithOwn system ss) (IsUnfit system ss) fault
unfit_at {system} ss k {s} less is taken fits (inl e) = inl (e.0, begin_own system ss k s less is fits e.1.0)
unfit_at {system} ss {before} k {s} {fault} less is taken fits (inr u) = grind (arith, split_at ss k s less)

middle : (before rest : List SignalAt) (s : SignalAt) → get_or (indices (before ++ s ∷ rest)) (length before) 0 ≡ s.index
middle [] rest s = refl
middle (x ∷ before) rest s = middle before rest s

within : (before rest : List SignalAt) (s : SignalAt) → length before < length (indices (before ++ s ∷ rest))
within [] rest s = omega arith
within (x ∷ before) rest s = let h = within before rest s in omega (arith, h)

unlike_first : (x : ℕ) (before rest : List SignalAt) (s : SignalAt) → IsDistinct nat_eq (x ∷ indices (before ++ s ∷ rest)) → nat_eq s.index x ≡ false
unlike_first x before rest s h =
    let apart = apart_from_distinct nat_eq (x ∷ indices (before ++ s ∷ rest)) 0 (suc (length before)) 0 h (omega arith) (let w = within before rest s in omega (arith, w)) in
    flip_false x s.index (ap (nat_eq x) (sym (middle before rest s)) ∙ apart)

pub not_before : (before rest : List SignalAt) (s : SignalAt) → IsDistinct nat_eq (indices (before ++ s ∷ rest)) → list_any (λ (r : SignalAt). s.index == r.index) before ≡ false
not_before [] rest s h = refl
not_before (x ∷ before) rest s h = grind (arith, unlike_first, IsDistinct-tail, not_before before rest s (IsDistinct-tail nat_eq x.index (indices (before ++ s ∷ rest)) h))

pub of_system : (system : System) (before rest : List SignalAt) (s : SignalAt) → All (λ (r : SignalAt). (r.system ≡ system) × IsSignal r) (before ++ s ∷ rest) → s.system ≡ system
of_system system [] rest s h = (All-head (λ (r : SignalAt). (r.system ≡ system) × IsSignal r) s rest h).0
of_system system (x ∷ before) rest s h = of_system system before rest s (All-tail (λ (r : SignalAt). (r.system ≡ system) × IsSignal r) x (before ++ s ∷ rest) h)

by_fault : (system : System) (before rest : List SignalAt) (s : SignalAt) (fault : PlanFault) → IsUnfitAfter system before s fault → IsOf system (before ++ s ∷ rest) → ⊥
by_fault system before rest s fault u is = grind (arith, of_system, not_before)

-- A list with a signal that doesn't fit is no list of the system's signals.
pub unfit_not_of : (system : System) (ss : List SignalAt) (fault : PlanFault) → IsUnfit system ss fault → IsOf system ss → ⊥
unfit_not_of system ss fault u is = by_fault system u.before u.rest u.signal fault u.unfit (subst (IsOf system) u.split is)
