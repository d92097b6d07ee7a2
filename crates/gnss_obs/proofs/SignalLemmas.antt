-- Signals in a set, and the indices of a table's signals in it.
use Rattle.gnss_obs.proofs.Names.{◌≡◌, ◌≢◌, ℕ, ◌+◌, ◌<◌, ◌≤◌, ◌==◌, ◌||◌, Bool, true, false, not, List, [], ◌∷◌, ◌++◌, length, All, set, get_or, nat_eq, nat_lt, refl, sym, ap, ap₂, ◌∙◌, subst, arith, Option, Some, None, if◌then◌else◌, cond, position, is_some, option_map, option_and_then, rules, get_or-set_other, length_push, get_or-set_at, All-head, All-tail, list_any, position_or_len, IsDistinct, SignalAt, IsSignal, most_signals, AreFound, AreRows, IsOf, common_steps, position-Some, slice_get-get_or, each_system, System, ListedSignal, table, id_of, indices, signal_at, signal_of_id, option_map_or, if_planned, planned_signal, eq-eqb, eqb-true, ne_eqb, not-true, not-false}
use Rattle.std.proofs.lemmas.List.Folds.{position_or_len_push}
use Rattle.gnss_obs.proofs.FitLemmas.{of_system}
use Rattle.gnss_obs.proofs.PlanLaws.{indices-push, is_of-push}
use Rattle.gnss_obs.proofs.TableLaws.{id_back}

pub none_before : {X : Type 0} (p : X → Bool) (xs : List X) → list_any p xs ≡ false → position_or_len p xs ≡ length xs
none_before p [] h = refl
none_before p (x ∷ xs) h = grind (arith, common_steps, none_before p xs)

-- ---- signals of one system are the same if their indices in its table are

-- The result of a set for a signal of the same system as the others.
module _ {eq : SignalAt → SignalAt → Bool} (same : (a b : SignalAt) → a.system ≡ b.system → eq a b ≡ (a.index == b.index)) (s : SignalAt) where
  any_same : (ss : List SignalAt) → All (λ (r : SignalAt). (r.system ≡ s.system) × IsSignal r) ss → list_any (eq s) ss ≡ list_any (λ (r : SignalAt). s.index == r.index) ss
  any_same [] h = refl
  any_same (r ∷ ss) h =
      let here = All-head (λ (r : SignalAt). (r.system ≡ s.system) × IsSignal r) r ss h in
      ap₂ (λ a b. a || b) (same s r (sym here.0)) (any_same ss (All-tail (λ (r : SignalAt). (r.system ≡ s.system) × IsSignal r) r ss h))

  pub was_new : {ss new : List SignalAt} {place : ℕ} → IsDistinct eq new → IsOf s.system ss → IsSignal s → new ≡ (if list_any (eq s) ss then ss else ss ++ s ∷ [])
      → not (list_any (eq s) ss) ≡ true → place ≡ position_or_len (eq s) ss
      → (new ≡ ss ++ s ∷ []) × (list_any (λ (r : SignalAt). s.index == r.index) ss ≡ false) × IsOf s.system new × (place ≡ length ss)
  was_new {ss} unique of listed keys added at =
      let none : list_any (eq s) ss ≡ false = not-true (list_any (eq s) ss) added in
      let apart = sym (any_same ss of.each) ∙ none in
      let all = keys ∙ ap (λ b. if b then ss else ss ++ s ∷ []) none in
      (all, apart, subst (IsOf s.system) (sym all) (is_of-push s.system ss s of refl listed apart), at ∙ none_before (eq s) ss none)

  pub was_there : {ss new : List SignalAt} → IsDistinct eq new → IsOf s.system ss → new ≡ (if list_any (eq s) ss then ss else ss ++ s ∷ [])
      → not (list_any (eq s) ss) ≡ false → (new ≡ ss) × (list_any (λ (r : SignalAt). s.index == r.index) ss ≡ true)
  was_there {ss} unique of keys added =
      let there : list_any (eq s) ss ≡ true = not-false (list_any (eq s) ss) added in
      (keys ∙ ap (λ b. if b then ss else ss ++ s ∷ []) there, sym (any_same ss of.each) ∙ there)

any_alike : (s : SignalAt) (test : SignalAt → Bool) (ss : List SignalAt) → All (λ (r : SignalAt). (r.system ≡ s.system) × IsSignal r) ss
    → ((r : SignalAt) → s.system ≡ r.system → test r ≡ (s.index == r.index)) → list_any test ss ≡ list_any (λ (r : SignalAt). s.index == r.index) ss
any_alike s test [] h same = refl
any_alike s test (r ∷ ss) h same = search (rules, All-head, All-tail, any_alike s test ss (All-tail (λ (r : SignalAt). (r.system ≡ s.system) × IsSignal r) r ss h) same)

pub is_absent : (s : SignalAt) {test : SignalAt → Bool} {ss : List SignalAt} → list_any test ss ≡ false → IsOf s.system ss
    → ((r : SignalAt) → s.system ≡ r.system → test r ≡ (s.index == r.index)) → list_any (λ (r : SignalAt). s.index == r.index) ss ≡ false
is_absent s {test} {ss} none of same = sym (any_alike s test ss of.each same) ∙ none

-- ---- one more number

first_skip : (p : ℕ → Bool) (xs : List ℕ) (x : ℕ) → p x ≡ false → position p (xs ++ x ∷ []) ≡ position p xs
first_skip p xs x h = grind (arith, common_steps)

here : (k n next long : ℕ) → k ≡ n → next ≡ cond (nat_eq k n) (n + 0) k → long ≡ n + 1 → cond (nat_lt next long) (Some next) None ≡ Some n
here k n next long e is len = grind (arith, common_steps)

first_here : (p : ℕ → Bool) (xs : List ℕ) (x : ℕ) → p x ≡ true → list_any p xs ≡ false → position p (xs ++ x ∷ []) ≡ Some (length xs)
first_here p xs x h none = grind (arith, common_steps, here, none_before, position_or_len_push, length_push)

any_flip : (i : ℕ) (xs : List ℕ) → list_any (λ j. j == i) xs ≡ list_any (nat_eq i) xs
any_flip i [] = refl
any_flip i (x ∷ xs) = grind (arith, common_steps, any_flip i xs)

pub found_more : {places : List (Option ℕ)} {xs new : List ℕ} (i : ℕ) {place : ℕ} → AreFound places xs → i < most_signals → most_signals ≤ length places → list_any (nat_eq i) xs ≡ false
    → place ≡ length xs → new ≡ xs ++ i ∷ [] → AreFound (set places i (Some place)) new
found_more {places} {xs} i {place} found less room none at is = grind (arith, get_or-set_at, first_here, any_flip, get_or-set_other, first_skip)

-- ---- the row of each ID

-- A signal found by its ID is listed, and has that ID.
pub id_found : (system : System) (id : ℕ) (s : SignalAt) → signal_of_id system id ≡ Some s → (s.system ≡ system) × IsSignal s × (id_of s ≡ id)
id_found system id s e = by (position (λ e. e.id == id) (table system)) refl e where
  by : (o : Option ℕ) → position (λ e. e.id == id) (table system) ≡ o → option_map (λ i. record { system = system; index = i }) o ≡ Some s → (s.system ≡ system) × IsSignal s × (id_of s ≡ id)
  by None at e = cc
  by (Some i) at e =
      let first : ListedSignal = record { id = 0; code = []; hertz = 0 } in
      let (within, here, others) = position-Some (λ (e : ListedSignal). e.id == id) (table system) i first at in
      let own = ap (λ o. option_map_or (λ (e : ListedSignal). e.id) o 0) (slice_get-get_or (table system) i first within) ∙ eqb-true _ id here in
      let is : record { system = system; index = i } ≡ s = cc in
      subst (λ (t : SignalAt). (t.system ≡ system) × IsSignal t × (id_of t ≡ id)) is (refl, within, own)

listed_at : (system : System) (i : ℕ) → i < length (table system) → signal_at system i ≡ Some (record { system = system; index = i })
listed_at system i within = grind (arith, common_steps, within)

-- No signal has this index.
pub no_signal : (system : System) → signal_at system 255 ≡ None
no_signal system = grind (arith, each_system)

pub none_planned : (system : System) (id : ℕ) → planned_signal system [] id ≡ None
none_planned system id = grind arith

-- One more signal.
module _ (s : SignalAt) (listed : IsSignal s) (ss : List SignalAt) (apart : list_any (nat_eq s.index) (indices ss) ≡ false) where
  own_row : planned_signal s.system (indices (ss ++ s ∷ [])) (id_of s) ≡ Some s
  own_row =
      let placed = ap is_some (first_here (λ i. i == s.index) (indices ss) s.index (eq-eqb s.index s.index refl) (any_flip s.index (indices ss) ∙ apart)) in
      ap (option_and_then (if_planned (indices (ss ++ s ∷ [])))) (id_back s listed)
      ∙ ap (λ l. if_planned l s) (indices-push ss s) ∙ ap (λ b. if b then Some s else None) placed

  other_row : (id : ℕ) → id ≢ id_of s → planned_signal s.system (indices (ss ++ s ∷ [])) id ≡ planned_signal s.system (indices ss) id
  other_row id apart = ap (λ l. planned_signal s.system l id) (indices-push ss s) ∙ by (signal_of_id s.system id) refl where
    by : (o : Option SignalAt) → signal_of_id s.system id ≡ o → option_and_then (if_planned (indices ss ++ s.index ∷ [])) o ≡ option_and_then (if_planned (indices ss)) o
    by None e = refl
    by (Some t) e =
        let found = id_found s.system id t e in
        let other : (s.index == t.index) ≡ false = ne_eqb s.index t.index (λ i. apart (sym found.2 ∙ ap id_of (alike t found.0 i))) in
        ap (λ o. if is_some o then Some t else None) (first_skip (λ i. i == t.index) (indices ss) s.index other)
      where
        alike : (t : SignalAt) → t.system ≡ s.system → s.index ≡ t.index → t ≡ s
        alike t a b = ap₂ (λ (c : System) (i : ℕ). record { system = c; index = i }) a (sym b)

  pub rows_more : (rows : List ℕ) {new : List SignalAt} {row id : ℕ} → AreRows rows ss → IsOf s.system ss → length rows ≡ 33 → row ≡ s.index → id ≡ id_of s → new ≡ ss ++ s ∷ []
      → AreRows (set rows id row) new
  rows_more rows {new} {row} {id} all of size at own is = subst (AreRows (set rows id row)) (sym is) (λ system more n small.
      rw (← of_system system ss [] s more.each) (by n small (nat_eq id n) refl)) where
        by : (n : ℕ) → n ≤ 32 → (b : Bool) → nat_eq id n ≡ b → signal_at s.system (get_or (set rows id row) n 0) ≡ planned_signal s.system (indices (ss ++ s ∷ [])) n
        by n small true e =
            let same : n ≡ id = grind (arith, e) in
            ap (signal_at s.system) (get_or-set_at rows id n row 0 same (omega (arith, small, size, same)) ∙ at) ∙ listed_at s.system s.index listed
            ∙ sym (ap (planned_signal s.system (indices (ss ++ s ∷ []))) (same ∙ own) ∙ own_row)
        by n small false e =
            let other : n ≢ id = grind (arith, e) in
            ap (signal_at s.system) (get_or-set_other rows id n row 0 other) ∙ all s.system of n small
            ∙ sym (other_row n (λ is. other (is ∙ sym own)))
