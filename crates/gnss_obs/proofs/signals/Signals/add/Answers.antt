use Rattle.gnss_obs.proofs.Names.{refl, Err, OnErr, Ok, Result, ◌≡◌, ℕ, nat_eq, ◌==◌, ◌++◌, ◌∷◌, [], ◌≤◌, true, false, List, length, sym, ap, ◌∙◌, subst, arith, rules, IsLeastNext, most_signals, SignalAt, indices, IsOf, list_any}
use Rattle.gnss_obs.proofs.PlanLaws.{any_index, indices-push, length_indices}
use Rattle.gnss_obs.proofs.SignalLemmas.{is_absent, was_new, was_there, found_more, rows_more}
use Rattle.gnss_obs.proofs.signals.Signals.add.Goals as goal

pub invariant_of-self-then-is_new : goal.invariant_of-self-then-is_new
invariant_of-self-then-is_new c =
    let keys = c.self.inside.order.keys in
    let s = c.args.signal in
    let of = subst (IsOf s.system) (sym c.self.view_is) c.requires in
    let a = was_new (λ a b e. grind arith) s c.in-Ok.ensures.unique of c.index-index.ensures.listed c.in-Ok.ensures.keys (sym c.in-Ok.ensures.added ∙ c.if-is_new.true) c.in-Ok.ensures.index in
    let room : most_signals ≤ length c.self.inside.places = omega arith in
    let more = ap indices a.0 ∙ indices-push keys s ∙ ap (λ (n : ℕ). indices keys ++ n ∷ []) (sym c.index-index.ensures.value) in (
      found_more c.index-index.result c.self.invariant.0 (search rules) room
          (ap (λ (n : ℕ). list_any (nat_eq n) (indices keys)) c.index-index.ensures.value ∙ sym (any_index s.index keys) ∙ a.1) (a.3 ∙ sym (length_indices keys))
          more,
      subst (IsLeastNext c.least_next_after-self-inside.result) (sym more) (c.least_next_after-self-inside.ensures (indices keys) c.self.invariant.1),
      search rules,
      rows_more s c.index-index.ensures.listed keys (sym (any_index s.index keys) ∙ a.1) c.self.inside.rows_by_id c.self.invariant.3 of c.self.invariant.2 c.index-index.ensures.value c.id.ensures.value a.0,
    )

pub returns-then-is_new-clause-new : goal.returns-then-is_new-clause-new
returns-then-is_new-clause-new c = λ e.
    let keys = c.self.inside.order.keys in
    let s = c.args.signal in
    let of = subst (IsOf s.system) (sym c.self.view_is) c.requires in
    let a = was_new (λ a b e. grind arith) s c.in-Ok.ensures.unique of c.index-index.ensures.listed c.in-Ok.ensures.keys (sym c.in-Ok.ensures.added ∙ c.if-is_new.true) c.in-Ok.ensures.index in
    subst (λ (l : List SignalAt). (c.insert_full.new.self.keys ≡ l ++ s ∷ []) × (list_any (λ (r : SignalAt). s.index == r.index) l ≡ false) × IsOf s.system c.insert_full.new.self.keys) c.self.view_is (a.0, a.1, a.2)

pub returns-else-is_new-clause-old : goal.returns-else-is_new-clause-old
returns-else-is_new-clause-old c = λ e.
    let keys = c.self.inside.order.keys in
    let s = c.args.signal in
    let of = subst (IsOf s.system) (sym c.self.view_is) c.requires in
    subst (λ (l : List SignalAt). (c.insert_full.new.self.keys ≡ l) × (list_any (λ (r : SignalAt). s.index == r.index) l ≡ true)) c.self.view_is
    (was_there (λ a b e. grind arith) s c.in-Ok.ensures.unique of c.in-Ok.ensures.keys (sym c.in-Ok.ensures.added ∙ c.if-is_new.false))

-- what holds after an error
lost : {A E : Type 0} (r : Result A E) {P : Type 0} → ((x : A) → r ≡ Ok x → ⊥) → OnErr r P → P
lost (Ok x) other h = absurd (other x refl)
lost (Err e) other h = h

pub returns-in_default-clause-absent : goal.returns-in_default-clause-absent
returns-in_default-clause-absent c =
    let s = c.args.signal in
    let of = subst (IsOf s.system) (sym c.self.view_is) c.requires in
    let none = lost c.insert_full.result c.in_default.not-Ok c.insert_full.ensures.absent in
    subst (λ (l : List SignalAt). list_any (λ (r : SignalAt). s.index == r.index) l ≡ false) c.self.view_is
    (is_absent s none of (λ r e. grind arith))
