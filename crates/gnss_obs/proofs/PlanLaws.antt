-- Codes separated by commas, and the signals of a plan.
use Rattle.gnss_obs.proofs.Names.{is_some, ◌⊎◌, ◌≡◌, ℕ, suc, zero, ◌+◌, ◌<◌, ◌≤◌, ◌==◌, ◌||◌, Bool, true, false, List, [], ◌∷◌, ◌++◌, length, length-map, map-append, All, nat_eq, refl, sym, ap, ◌∙◌, subst, arith, Option, Some, None, Result, Ok, Err, rules, true≢false, codes, is_err, Bor, nat_eq_equiv, IsDistinct-push, All-push, All-head, All-map, All-tail, All-weaker, MayTakeCode, ListedSignal, RepeatedCode, System, SignalAt, IsSignal, table, signal_of_code, signal_where, signal_at, PlanFault, between_commas, one_signal_more, below, signals_of, signals_after, IsTaken, indices, IsMemoryFaultOr, IsOf, ArePlanned, DoneOr, RefusesCode, TakesCode, list_any, position_or_len, before_first, after_first, IsDistinct, common_steps, has_signal, signals_coded, is_first_listed, is_nil}
use Rattle.std.proofs.lemmas.Slice.Eq.{bytes_eq-Decides}
use Rattle.std.proofs.lemmas.Map.Steps.{length-le_from_distinct_below}
use Rattle.std.proofs.lemmas.List.Folds.{list_any-append}
use Rattle.std.proofs.lemmas.Str.Pattern.{IsSplitOnceResult, split_once_first}

abbrev comma : ℕ → Bool
comma b = b == 44

-- ---- the first code

pub no_comma : (text : List ℕ) → position_or_len comma text ≡ length text → between_commas text ≡ text ∷ []
no_comma [] h = refl
no_comma (b ∷ bs) h = grind (arith, common_steps, no_comma bs)

pub at_comma : (text : List ℕ) → position_or_len comma text < length text → between_commas text ≡ before_first comma text ∷ between_commas (after_first comma text)
at_comma [] h = absurd (omega (arith, h))
at_comma (b ∷ bs) h = grind (arith, common_steps, at_comma bs)

pub first_none : (text : List ℕ) (r : Option (Bor (List ℕ) × Bor (List ℕ))) → IsSplitOnceResult 44 text r → r ≡ None → between_commas text ≡ text ∷ []
first_none text r split is = no_comma text (rw is at (split_once_first 44 text r split (omega arith)))

pub first_some : (text : List ℕ) (r : Option (Bor (List ℕ) × Bor (List ℕ))) (x : Bor (List ℕ) × Bor (List ℕ)) → IsSplitOnceResult 44 text r → r ≡ Some x
    → between_commas text ≡ x.0.now ∷ between_commas x.1.now
first_some text r x split is = grind (arith, split_once_first, at_comma)

-- ---- the signals of a plan

pub any_index : (n : ℕ) (ss : List SignalAt) → list_any (λ (s : SignalAt). n == s.index) ss ≡ list_any (nat_eq n) (indices ss)
any_index n [] = refl
any_index n (s ∷ ss) = ap (λ b. (n == s.index) || b) (any_index n ss)

pub length_indices : (ss : List SignalAt) → length (indices ss) ≡ length ss
length_indices ss = length-map ss (λ s. s.index)

pub indices-push : (ss : List SignalAt) (s : SignalAt) → indices (ss ++ s ∷ []) ≡ indices ss ++ s.index ∷ []
indices-push ss s = map-append (λ s. s.index) ss (s ∷ [])

abbrev OfSystem : System → SignalAt → Type 0
OfSystem system s = (s.system ≡ system) × IsSignal s

pub listed_by : (system : System) (ss : List SignalAt) → All (OfSystem system) ss → All (λ i. i < length (table system)) (indices ss)
listed_by system ss all = All-map (λ i. i < length (table system)) (λ s. s.index) ss (All-weaker (OfSystem system) (λ s. s.index < length (table system)) (λ s is. subst (λ t. s.index < length (table t)) is.0 is.1) ss all)

one_below : (q x n : ℕ) (others : Bool) → x < n → (others ≡ true → q < n) → (nat_eq q x || others) ≡ true → q < n
one_below q x n others less more h = grind (arith, h)

each_below : (n : ℕ) (xs : List ℕ) → All (λ i. i < n) xs → (q : ℕ) → list_any (nat_eq q) xs ≡ true → q < n
each_below n [] below q h = cc
each_below n (x ∷ xs) below q h = one_below q x n (list_any (nat_eq q) xs) (All-head (λ i. i < n) x xs below) (each_below n xs (All-tail (λ i. i < n) x xs below) q) h

pub few_below : (n : ℕ) (xs : List ℕ) → All (λ i. i < n) xs → IsDistinct nat_eq xs → length xs ≤ n
few_below n xs below apart = length-le_from_distinct_below xs n apart (each_below n xs below)

pub few_signals : (system : System) (ss : List SignalAt) → IsOf system ss → length ss ≤ length (table system)
few_signals system ss h = subst (λ n. n ≤ length (table system)) (length_indices ss) (few_below (length (table system)) (indices ss) (listed_by system ss h.each) h.apart)

pub none_of : (system : System) → IsOf system []
unfolding IsDistinct
none_of system = record { each = search rules; apart = tt }

pub is_of-push : (system : System) (ss : List SignalAt) (s : SignalAt) → IsOf system ss → s.system ≡ system → IsSignal s → list_any (λ (r : SignalAt). s.index == r.index) ss ≡ false → IsOf system (ss ++ s ∷ [])
is_of-push system ss s h same listed new = record {
  each = All-push (OfSystem system) ss s h.each (same, listed);
  apart = subst (IsDistinct nat_eq) (sym (indices-push ss s)) (IsDistinct-push nat_eq_equiv (indices ss) s.index h.apart (sym (any_index s.index ss) ∙ new));
}

-- ---- channels

pub none_planned : (ss : List SignalAt) → indices ss ≡ [] → ss ≡ []
none_planned [] h = refl
none_planned (s ∷ ss) h = cc

pub some_planned : (ss : List SignalAt) {planned : List ℕ} → indices ss ≡ planned → (ss ≡ [] → ⊥) → is_nil planned ≡ false
some_planned [] same h = absurd (h refl)
some_planned (s ∷ ss) same h = sym (ap is_nil same)

-- ---- one more code

pub repeated : (system : System) (ss : List SignalAt) (o : Option SignalAt) (s : SignalAt) (rest : List ℕ → Result (List ℕ) PlanFault) → o ≡ Some s
    → list_any (λ (r : SignalAt). s.index == r.index) ss ≡ true → one_signal_more system (indices ss) o rest ≡ Err (RepeatedCode system (length ss))
repeated system ss o s rest is has = rw (is, ← any_index s.index ss, has, length_indices ss) refl

pub accepted : (system : System) (ss : List SignalAt) (o : Option SignalAt) (s : SignalAt) (rest : List ℕ → Result (List ℕ) PlanFault) → o ≡ Some s
    → list_any (λ (r : SignalAt). s.index == r.index) ss ≡ false → one_signal_more system (indices ss) o rest ≡ rest (indices (ss ++ s ∷ []))
accepted system ss o s rest is has = rw (is, ← any_index s.index ss, has, indices-push ss s) refl

pub next_code : (system : System) (before after : List SignalAt) (text code rest : List ℕ) → between_commas text ≡ code ∷ between_commas rest
    → IsTaken system (indices before) (signal_of_code system code) (indices after)
    → signals_after system (indices after) (between_commas rest) ≡ signals_after system (indices before) (between_commas text)
next_code system before after text code rest split taken = grind (arith, common_steps)

-- A code whose signal may be added is in the table.
pub listed_code : (system : System) (before : List SignalAt) (code : List ℕ) → MayTakeCode system code before → is_some (signal_of_code system code) ≡ true
listed_code system before code (now, taken) = by (signal_of_code system code) taken where
  by : (o : Option SignalAt) → IsTaken system (indices before) o now → is_some o ≡ true
  by (Some s) taken = refl
  by None taken = let e = taken (λ signals. Ok signals) in cc

-- The first of all codes is in the table, or none of them was read.
abbrev pub IsFirstRead : System → List (List ℕ) → List (List ℕ) → Type 0
IsFirstRead system all rest = (rest ≡ all) ⊎ (is_first_listed system all ≡ true)

pub first_read : (system : System) (all codes : List (List ℕ)) {rest : List (List ℕ)} (code : List ℕ) → rest ≡ code ∷ codes → IsFirstRead system all rest → is_some (signal_of_code system code) ≡ true
    → is_first_listed system all ≡ true
first_read system all codes code split h1 listed = grind arith

pub code_fault : (Q : Type 0) (system : System) (before : List SignalAt) (text : List ℕ) {code : List ℕ} {codes : List (List ℕ)} {all : Result (List ℕ) PlanFault} (fault : PlanFault)
    → between_commas text ≡ code ∷ codes → signals_after system (indices before) (between_commas text) ≡ all → (MayTakeCode system code before → Q)
    → IsMemoryFaultOr (MayTakeCode system code before) (RefusesCode system code before) fault → IsMemoryFaultOr Q (λ e. all ≡ Err e) fault
code_fault Q system before text fault split same may h3 = grind arith

pub last_code : {A : Type 0} (Q : Type 0) (system : System) (before after : List SignalAt) (text : List ℕ) {all : Result (List ℕ) PlanFault} (result : Result A PlanFault)
    → between_commas text ≡ text ∷ [] → signals_after system (indices before) (between_commas text) ≡ all
    → (MayTakeCode system text before → Q) → DoneOr (MayTakeCode system text before) (RefusesCode system text before) (TakesCode system text before after) result
    → DoneOr Q (λ e. all ≡ Err e) (ArePlanned system all after) result
last_code Q system before after text result split same may h = grind (arith, code_fault)

-- The signal of a code is one of the system's table.
pub of_where : (system : System) (test : ListedSignal → Bool) (s : SignalAt) → signal_where system test ≡ Some s → (s.system ≡ system) × IsSignal s
of_where system test s h = grind (arith, common_steps)

-- ---- all signals of a table

pub at_index : (system : System) (i : ℕ) (s : SignalAt) → signal_at system i ≡ Some s → (s.system ≡ system) × IsSignal s × (s.index ≡ i)
at_index system i s h = grind (arith, common_steps)

none_below : (m n : ℕ) → m ≤ n → list_any (nat_eq n) (below m) ≡ false
none_below zero n le = refl
none_below (suc m) n le = grind (arith, common_steps, list_any-append, none_below m n (omega (arith, le)))

below-more : (i : ℕ) → below (i + 1) ≡ below i ++ i ∷ []
below-more i = let e : i + 1 ≡ suc i = omega arith in rw e refl

pub one_index : {system : System} (i : ℕ) {s : SignalAt} {ss new : List SignalAt} → below i ≡ indices ss → IsOf system ss → signal_at system i ≡ Some s → new ≡ ss ++ s ∷ []
    → (below (i + 1) ≡ indices new) × IsOf system new
one_index {system} i {s} {ss} so of is e = grind (arith, none_below, at_index system i s is, indices-push ss s, is_of-push system ss s of (at_index system i s is).0 (at_index system i s is).1, any_index s.index ss)

-- The next signal of a table is not among the earlier ones.
pub index_added : {E : Type 0} {system : System} (i : ℕ) {s : SignalAt} {ss new : List SignalAt} (r : Result Bool E) → is_err r ≡ false → below i ≡ indices ss → IsOf system ss
    → signal_at system i ≡ Some s → (r ≡ Ok true → (new ≡ ss ++ s ∷ []) × (list_any (λ (q : SignalAt). s.index == q.index) ss ≡ false) × IsOf s.system new)
    → (r ≡ Ok false → (new ≡ ss) × (list_any (λ (q : SignalAt). s.index == q.index) ss ≡ true)) → (below (i + 1) ≡ indices new) × IsOf system new
index_added {system} i {s} {ss} {new} (Ok true) is so of at added there = one_index i so of at (added refl).0
index_added {system} i {s} {ss} (Ok false) is so of at added there = grind (arith, none_below, any_index s.index ss)
index_added i (Err e) is so of at added there = absurd (true≢false is)

pub when_none : (system : System) (text : List ℕ) (r : List SignalAt) → text ≡ codes "none" → r ≡ []
    → (signals_of system text ≡ Ok (indices r)) × IsOf system r
when_none system text r is e = rw (is, e) (refl, none_of system)

-- The signals of a text other than `all` and `none` are those of its codes.
pub when_codes : {A : Type 0} (system : System) (text : List ℕ) (after : List SignalAt) (result : Result A PlanFault) → (text ≡ codes "all" → ⊥) → (text ≡ codes "none" → ⊥)
    → DoneOr (is_first_listed system (between_commas text) ≡ true) (λ e. signals_coded system text ≡ Err e) (ArePlanned system (signals_coded system text) after) result
    → DoneOr (has_signal system text ≡ true) (λ e. signals_of system text ≡ Err e) (ArePlanned system (signals_of system text) after) result
when_codes system text after result every none h = grind (arith, bytes_eq-Decides)
