use Rattle.obs_epoch.proofs.Names.{◌≡◌, ◌+◌, ◌<◌, ◌≤◌, ◌++◌, length, HeardCell, AreSignalCounts, arith, false, refl, rules, ℕ, ◌-◌, ◌∙◌, List, get_or, nat_lt, ap, sym, subst, ids_within, entries, Msm, value_count, satellite_set, has_id, id_of, signal_in, SignalAt, IsSignal, is_system}
use Rattle.obs_epoch.proofs.SignalCountsLemmas.{few_valued}
use Rattle.obs_epoch.proofs.SignalNumbers.{number, number_none, Adds, IsAny, adds_some, adds_none, any_some, any_same, all_any, finished, valued_msm}
use Rattle.obs_epoch.proofs.signal_counts.SignalCounts.count_msm.Goals as goal

pub loop-id-init : goal.loop-id-init
loop-id-init c =
    let system = c.system-system.result in
    let left = c.value_counts-counts.result.left in
    let counts = c.value_counts-counts.result.counts in
    let es = entries (Msm c.args.msm.now) in
    let numbers : (i : ℕ) → i < 32 → get_or counts i 0 ≡ value_count (satellite_set system) (i + 1) es = search rules in
    let others : (id : ℕ) → has_id id left ≡ false → value_count (satellite_set system) id es ≡ 0 = search rules in
    let zero : (r : SignalAt) → IsSignal r → number system left counts r ≡ 0 = λ r listed.
    let within = ids_within r listed in
    number_none (is_system system r.system) (has_id (id_of r) left) (get_or counts (id_of r - 1) 0) (λ none.
    numbers (id_of r - 1) (omega (arith, within.0, within.1)) ∙ ap (λ (k : ℕ). value_count (satellite_set system) k es) (omega (arith, within.0)) ∙ others (id_of r) none) in
    record {
      adds = record { size = λ s. refl; past = λ s i out. refl; each = λ s i listed len small. omega (arith, zero (signal_in s i) listed) };
      any = zero;
      numbers = numbers;
      few = search rules;
    }

pub loop-id-preserved-in-Some-from_id : goal.loop-id-preserved-in-Some-from_id
loop-id-preserved-in-Some-from_id c =
    let same = c.in-Some.ensures.same in
    let read = c.in-Some.ensures.some.1 ∙ ap (λ (l : List ℕ). get_or l (c.in-Some.id - 1) 0) (sym same) in
    let some = sym c.from_id.ensures ∙ c.in-Some-from_id.is in
    record {
      adds = adds_some
          (subst (λ (l : List ℕ). Adds c.args.self.now c.loop-id.self c.system-system.result c.loop-id.counts.left l) (sym same) c.loop-id.invariant.adds) c.in-Some.ensures.some.0 some read (λ i. rw same (c.loop-id.invariant.few i)) c.in-Some.ensures.once c.add.ensures;
      any = any_some c.system-system.result _ c.loop-id.any (subst (λ (l : List ℕ). IsAny c.system-system.result c.loop-id.counts.left l c.loop-id.any) (sym same) c.loop-id.invariant.any) c.in-Some.ensures.some.0 some read c.in-Some.ensures.once;
      numbers = λ i h. rw same (c.loop-id.invariant.numbers i h);
      few = λ i. rw same (c.loop-id.invariant.few i);
    }

pub loop-id-preserved : goal.loop-id-preserved
loop-id-preserved c =
    let same = c.in-Some.ensures.same in
    let none = sym c.from_id.ensures ∙ c.in_default-from_id.is in
    let read = c.in-Some.ensures.some.1 ∙ ap (λ (l : List ℕ). get_or l (c.in-Some.id - 1) 0) (sym same) in
    record {
      adds = adds_none
          (subst (λ (l : List ℕ). Adds c.args.self.now c.loop-id.self c.system-system.result c.loop-id.counts.left l) (sym same) c.loop-id.invariant.adds) c.in-Some.ensures.some.0 none read c.in-Some.ensures.once;
      any = any_same c.system-system.result _ c.loop-id.any (subst (λ (l : List ℕ). IsAny c.system-system.result c.loop-id.counts.left l c.loop-id.any) (sym same) c.loop-id.invariant.any) c.in-Some.ensures.some.0 none read c.in-Some.ensures.once;
      numbers = λ i h. rw same (c.loop-id.invariant.numbers i h);
      few = λ i. rw same (c.loop-id.invariant.few i);
    }

pub returns-clause-counts : goal.returns-clause-counts
returns-clause-counts c =
    let v = c.args.msm.now in
    let es = entries (Msm v) in
    let same = sym (valued_msm v c.system-system.ensures) in
    record {
      counts = λ cells few h. subst (λ (l : List HeardCell). AreSignalCounts c.loop-id.self (cells ++ l)) same
          (finished c.system-system.result _ _ v.form es c.in_default.ensures.none c.loop-id.invariant.numbers c.loop-id.invariant.adds cells (omega (arith, few, c.value_counts-counts.ensures.cells)) h);
      few = subst (λ (l : List HeardCell). length l ≤ 64) same (few_valued v.form c.system-system.result es _ refl c.value_counts-counts.ensures.cells);
    }

pub returns-clause-any : goal.returns-clause-any
returns-clause-any c =
    let v = c.args.msm.now in
    all_any c.system-system.result _ _ v.form (entries (Msm v)) c.in_default.ensures.none c.loop-id.invariant.numbers _ c.loop-id.invariant.any ∙ ap (λ (l : List HeardCell). nat_lt 0 (length l)) (sym (valued_msm v c.system-system.ensures))
