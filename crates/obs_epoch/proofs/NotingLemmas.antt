-- A closing: the locks of the pending epoch are recorded.
use Rattle.obs_epoch.proofs.Names.{◌≡◌, ℕ, true, false, List, [], ◌∷◌, ◌++◌, filter, refl, sym, ap, ap₂, ◌∙◌, subst, arith, length, append_assoc, append-nil, Option, Some, None, flat_map, find, option_and_then, unwrap_or, fold, ◌||◌, Bool, if◌then◌else◌, option_or, IsDistinct, cons_option, list_any, systems, system_same, any_system, note_systems, filter-append, flat_map-append, IsDistinct-push, System, is_system, GatherSetup, HeardCell, Timed, is_at, is_of_system, has_listed_key, is_planned, is_among, kept, cells_at, add, offered, has_same_key, planned_of, EpochValue, lock_of, locked_at, latest_in, last_of, is_locked, cells_with_lli, epoch_at, lookup, note_all, most_locks, TracksLocks, GathererValue, noted, locked_in, Locked, Cell, KnownLock, common_steps, all_append, all_passed, filter_map-append}
use Rattle.obs_epoch.proofs.OrderLemmas.{among-sorted, all-sorted, distinct-sorted}
use Rattle.obs_epoch.proofs.CellsLemmas.{kept-add, same_key_laws}
use Rattle.obs_epoch.proofs.LockLemmas.{seens, lookup-note_all, note_all_size, tracks_all, locked, find_none, AllListed}

-- ---- the kept cells have different keys, all of one system

add_distinct : (system : System) (ks : List HeardCell) (y : HeardCell) → IsDistinct has_same_key ks → IsDistinct has_same_key (add system ks y)
add_distinct system ks y d = grind (arith, common_steps, IsDistinct-push, same_key_laws)

distinct_more : (system : System) (xs ys : List HeardCell) → IsDistinct has_same_key (kept system xs) → IsDistinct has_same_key (kept system (xs ++ ys))
distinct_more system xs [] d = subst (λ l. IsDistinct has_same_key (kept system l)) (sym (append-nil xs)) d
distinct_more system xs (y ∷ ys) d = grind (arith, append_assoc, distinct_more system (xs ++ y ∷ []) ys (subst (IsDistinct has_same_key) (sym (kept-add system xs y)) (add_distinct system (kept system xs) y d)))

kept_none : (system : System) → kept system [] ≡ []
kept_none system = grind (arith, common_steps)

pub kept_distinct : (system : System) (xs : List HeardCell) → IsDistinct has_same_key (kept system xs)
unfolding IsDistinct
kept_distinct system xs = distinct_more system [] xs (subst (IsDistinct has_same_key) (sym (kept_none system)) tt)

add_apart : (system : System) (ks : List HeardCell) (y key : HeardCell) → is_of_system system key ≡ false → is_among ks key ≡ false → is_among (add system ks y) key ≡ false
add_apart system ks y key o h = grind (arith, common_steps)

apart_more : (system : System) (xs ys : List HeardCell) (key : HeardCell) → is_of_system system key ≡ false → is_among (kept system xs) key ≡ false → is_among (kept system (xs ++ ys)) key ≡ false
apart_more system xs [] key o h = subst (λ l. is_among (kept system l) key ≡ false) (sym (append-nil xs)) h
apart_more system xs (y ∷ ys) key o h = grind (arith, append_assoc, apart_more system (xs ++ y ∷ []) ys key o (ap (λ l. is_among l key) (kept-add system xs y) ∙ add_apart system (kept system xs) y key o h))

pub kept_apart : (system : System) (xs : List HeardCell) (key : HeardCell) → is_of_system system key ≡ false → is_among (kept system xs) key ≡ false
kept_apart system xs key o = apart_more system [] xs key o (ap (λ l. is_among l key) (kept_none system))

-- The same in the order of the plan.
at_distinct : (s : GatherSetup) (t : ℕ) (xs : List Timed) (system : System) → IsDistinct has_same_key (cells_at s t xs system)
at_distinct s t xs system = distinct-sorted (planned_of system s.plan) (kept system (offered s t xs)) (kept_distinct system (offered s t xs))

at_apart : (s : GatherSetup) (t : ℕ) (xs : List Timed) (system : System) (key : HeardCell) → is_of_system system key ≡ false → is_among (cells_at s t xs system) key ≡ false
at_apart s t xs system key o = among-sorted (planned_of system s.plan) (kept system (offered s t xs)) key ∙ kept_apart system (offered s t xs) key o

-- ---- the kept cells are listed

listed_offered : (s : GatherSetup) (xs : List Timed) → AllListed (flat_map (λ (x : Timed). filter (is_planned s) x.message.cells) xs)
listed_offered s [] = tt
listed_offered s (x ∷ xs) =
    all_append (λ y. has_listed_key y ≡ true) (filter (is_planned s) x.message.cells) _
    (all_passed (λ y. has_listed_key y ≡ true) (is_planned s) (λ y e. grind (arith, common_steps, e)) x.message.cells) (listed_offered s xs)

add_listed : (system : System) (ks : List HeardCell) (y : HeardCell) → has_listed_key y ≡ true → AllListed ks → AllListed (add system ks y)
add_listed system ks y l h = grind (arith, common_steps)

listed_more : (system : System) (xs ys : List HeardCell) → AllListed ys → AllListed (kept system xs) → AllListed (kept system (xs ++ ys))
listed_more system xs [] l d = subst (λ v. AllListed (kept system v)) (sym (append-nil xs)) d
listed_more system xs (y ∷ ys) l d = grind (arith, append_assoc, listed_more system (xs ++ y ∷ []) ys l.1 (subst AllListed (sym (kept-add system xs y)) (add_listed system (kept system xs) y l.0 d)))

kept_listed : (s : GatherSetup) (t : ℕ) (xs : List Timed) (system : System) → AllListed (cells_at s t xs system)
kept_listed s t xs system = all-sorted (λ x. has_listed_key x ≡ true) (planned_of system s.plan) (kept system (offered s t xs)) (listed_more system [] (offered s t xs) (listed_offered s (filter (is_at t) xs)) (subst AllListed (sym (kept_none system)) tt))

-- ---- one more epoch

last_push : (xs : List KnownLock) (o : Option KnownLock) → last_of (xs ++ cons_option o []) ≡ option_or o (last_of xs)
last_push [] None = refl
last_push [] (Some l) = refl
last_push (x ∷ xs) None = ap last_of (append-nil (x ∷ xs))
last_push (x ∷ xs) (Some l) = ap (λ o. Some (unwrap_or o x)) (last_push xs (Some l))

pub latest_in-push : (s : GatherSetup) (xs : List Timed) (ts : List ℕ) (t : ℕ) (key : HeardCell)
    → latest_in s xs (ts ++ t ∷ []) key ≡ option_or (locked_at s xs key t) (latest_in s xs ts key)
latest_in-push s xs ts t key = grind (arith, filter_map-append, last_push)

seens_with_lli : (s : GatherSetup) (xs : List Timed) (t : ℕ) (ks : List HeardCell) → seens (cells_with_lli s xs t ks) ≡ ks
seens_with_lli s xs t [] = refl
seens_with_lli s xs t (k ∷ ks) = ap (λ l. k ∷ l) (seens_with_lli s xs t ks)

abbrev cells_in : GatherSetup → List Timed → ℕ → System → List Cell
cells_in s xs t system = cells_with_lli s xs t (cells_at s t xs system)

-- The records after the cells of these systems are recorded.
abbrev noting : GatherSetup → List Timed → ℕ → List (Option KnownLock) → List System → List (Option KnownLock)
noting s xs t rs ss = fold (λ l system. note_all t l (cells_in s xs t system)) rs ss

pub are_listed : (s : GatherSetup) (xs : List Timed) (t : ℕ) (system : System) → AllListed (seens (cells_in s xs t system))
are_listed s xs t system = subst AllListed (sym (seens_with_lli s xs t (cells_at s t xs system))) (kept_listed s t xs system)

found_over : (s : GatherSetup) (xs : List Timed) (t : ℕ) (key : HeardCell) (rs : List (Option KnownLock)) (ss : List System) → length rs ≡ most_locks
    → lookup (noting s xs t rs ss) key ≡ option_or (if list_any (is_system key.satellite.system) ss then locked_at s xs key t else None) (lookup rs key)
found_over s xs t key rs [] size = refl
found_over s xs t key rs (c ∷ ss) size =
    found_over s xs t key (note_all t rs (cells_in s xs t c)) ss (note_all_size t rs (cells_in s xs t c) ∙ size)
    ∙ ap (option_or (if list_any (is_system key.satellite.system) ss then locked_at s xs key t else None)) one
    ∙ by (is_system key.satellite.system c) (list_any (is_system key.satellite.system) ss) refl where
      one : lookup (note_all t rs (cells_in s xs t c)) key ≡ option_or (option_and_then (lock_of t) (find (has_same_key key) (cells_at s t xs c))) (lookup rs key)
      one = grind (arith, lookup-note_all, seens_with_lli, at_distinct, are_listed)

      twice : (b : Bool) (l o : Option KnownLock) → option_or (if b then l else None) (option_or l o) ≡ option_or l o
      twice b l o = grind (arith, common_steps)

      by : (a b : Bool) → is_system key.satellite.system c ≡ a
          → option_or (if b then locked_at s xs key t else None) (option_or (option_and_then (lock_of t) (find (has_same_key key) (cells_at s t xs c))) (lookup rs key))
          ≡ option_or (if (a || b) then locked_at s xs key t else None) (lookup rs key)
      by true b e = cc (system_same key.satellite.system c e, twice b (locked_at s xs key t) (lookup rs key))
      by false b e = grind (arith, find_none key (cells_at s t xs c) (at_apart s t xs c key (grind (arith, e))))

tracks_over : (s : GatherSetup) (xs : List Timed) (t : ℕ) (rs : List (Option KnownLock)) (noted : List HeardCell) (ss : List System) → TracksLocks rs noted
    → TracksLocks (noting s xs t rs ss) (noted ++ filter is_locked (flat_map (cells_at s t xs) ss))
tracks_over s xs t rs noted [] h = subst (TracksLocks rs) (sym (append-nil noted)) h
tracks_over s xs t rs noted (c ∷ ss) h = grind (arith, seens_with_lli, append_assoc, filter-append, tracks_over s xs t (note_all t rs (cells_in s xs t c)) (noted ++ locked (seens (cells_in s xs t c))) ss (tracks_all t rs noted (cells_in s xs t c) (are_listed s xs t c) h))

-- The pending epoch is closed.
pub noted_locked : (g : GathererValue) (s : GatherSetup) (xs : List Timed) (ts : List ℕ) (t : ℕ) → g.epoch ≡ epoch_at s xs t → Locked g s xs ts → Locked (noted g) s xs (ts ++ t ∷ [])
noted_locked g s xs ts t e h =
    let is : (noted g).locks ≡ noting s xs t g.locks systems = ap (λ (v : EpochValue). note_systems v g.locks systems) e in
    record {
      found = λ key.
          ap (λ l. lookup l key) is ∙ found_over s xs t key g.locks systems h.tracks.size
          ∙ ap₂ (λ b o. option_or (if b then locked_at s xs key t else None) o) (any_system key.satellite.system) (h.found key) ∙ sym (latest_in-push s xs ts t key);
      tracks = subst (λ l. TracksLocks l (locked_in s xs (ts ++ t ∷ []))) (sym is) (subst (TracksLocks (noting s xs t g.locks systems))
          (ap (λ l. locked_in s xs ts ++ l) (sym (append-nil _)) ∙ sym (flat_map-append (λ u. filter is_locked (flat_map (cells_at s u xs) systems)) ts (t ∷ [])))
          (tracks_over s xs t g.locks (locked_in s xs ts) systems h.tracks));
    }
