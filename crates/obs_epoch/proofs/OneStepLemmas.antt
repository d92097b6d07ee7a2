-- A step of the gatherer adds one message to the list.
use Rattle.obs_epoch.proofs.Names.{◌≡◌, ℕ, Bool, true, false, not, ◌&&◌, List, [], ◌∷◌, ◌++◌, filter, refl, sym, ap, ap₂, ◌∙◌, subst, arith, append-nil, Option, Some, None, nat_lt, if◌then◌else◌, filter_map, flat_map, length-replicate, filter-append, GatherSetup, Heard, ends_epoch, HeardCell, kept_cell, Timed, is_at, greatest_time, is_closed, taken_at, no_counts, offered, is_planned, locked_at, latest_in, previous, times, lli_with, cells_with_lli, epoch_at, closed_so_far, lookup, no_locks, State, closes_first, is_pending, GathererValue, empty_epoch, load, epoch_begun, is_same, locked_in, held_at, Locked, KnownLock, option_map_or, list_any, equal_values, value_tabulated, common_steps, lt-ltb, le-ltb, append_cancel_right}
use Rattle.obs_epoch.proofs.TimesLemmas.{next, greater-absent, none-absent}
use Rattle.obs_epoch.proofs.ClockLemmas.{standing, same_time, Follows, first, greater, equal, new_time}
use Rattle.obs_epoch.proofs.HeardLemmas.{same_itself}
use Rattle.obs_epoch.proofs.ClosedLemmas.{Below, when, ends, closed_is, passes_all, one_fails, taken_follows, times-push_same}
use Rattle.obs_epoch.proofs.ClosingLemmas.{first_is, not_less, own_of, taken_by}
use Rattle.obs_epoch.proofs.EpochLemmas.{IsLater, AllLater, all_none, times_before, epoch_at-push}
use Rattle.obs_epoch.proofs.LockLemmas.{none_found, none_recorded}
use Rattle.obs_epoch.proofs.LoadLemmas.{with_lli_by, epoch_of, load_is, counts_after}

-- ---- after every message, a closed epoch is the same

latest-push : (s : GatherSetup) (xs : List Timed) (x : Timed) (ts : List ℕ) (key : HeardCell) → AllLater x.time ts → filter_map (locked_at s (xs ++ x ∷ []) key) ts ≡ filter_map (locked_at s xs key) ts
latest-push s xs x [] key h = refl
latest-push s xs x (t ∷ ts) key h = grind (arith, common_steps, latest-push s xs x ts key h.1)

locked_in-push : (s : GatherSetup) (xs : List Timed) (x : Timed) (ts : List ℕ) → AllLater x.time ts → locked_in s (xs ++ x ∷ []) ts ≡ locked_in s xs ts
locked_in-push s xs x [] h = refl
locked_in-push s xs x (t ∷ ts) h = grind (arith, common_steps, locked_in-push s xs x ts h.1)

pub locked-push : (g : GathererValue) (s : GatherSetup) (xs : List Timed) (x : Timed) (ts : List ℕ) → AllLater x.time ts → Locked g s xs ts → Locked g s (xs ++ x ∷ []) ts
locked-push g s xs x ts later h = grind (arith, common_steps, latest-push, locked_in-push)

-- ---- an accepted message: the closed epochs are those before its time

cancel_when : (a b : List ℕ) (c : Bool) (u : ℕ) → a ++ when c u ≡ b ++ when c u → a ≡ b
cancel_when a b c u e = grind (arith, append_cancel_right a b (u ∷ []), append-nil)

not_same : (a b : Bool) → not a ≡ not b → a ≡ b
not_same a b e = grind (arith, common_steps, e)

-- The times before that of an accepted message are those of the closed epochs.
pub before_taken : (s : GatherSetup) (xs : List Timed) (m : Heard) (u : ℕ) (shut : Bool) → taken_at s xs m ≡ Some u → closes_first s xs m ≡ shut
    → (filter (λ v. nat_lt v u) (times (xs ++ next s xs m ∷ [])) ≡ closed_so_far s xs shut) × Below u (closed_so_far s xs shut)
before_taken s xs m u shut some h =
    let x = next s xs m in
    let ys = xs ++ x ∷ [] in
    let follow = taken_follows s xs m u some in
    let own = own_of s xs m u some in
    let new = new_time s xs x u some follow in
    let last = ends ys u new.0 in
    let closed : is_closed s u ys ≡ ends_epoch s m = not_same _ _ (ap (λ g. option_map_or (λ t. not (is_closed s t ys)) g false) (sym new.0) ∙ new.1) in
    let two : last.init ++ when (ends_epoch s m) u ≡ closed_so_far s xs shut ++ when (ends_epoch s m) u =
    ap (λ b. last.init ++ when b u) (sym closed) ∙ sym (closed_is s ys u last.init new.0 last.is last.below) ∙ taken_by m own some follow shut h in
    let same = cancel_when last.init (closed_so_far s xs shut) (ends_epoch s m) u two in (
      ap (filter (λ v. nat_lt v u)) last.is ∙ filter-append (λ v. nat_lt v u) last.init (u ∷ [])
          ∙ ap₂ (λ a b. a ++ b) (passes_all (λ v. nat_lt v u) u last.init (λ t lt. lt-ltb t u lt) last.below) (one_fails (λ v. nat_lt v u) u (le-ltb u u (omega arith)))
          ∙ append-nil last.init ∙ same,
      subst (Below u) same last.below,
    )

-- All closed epochs are before the next message's time, if it has one.
pub closed_later : (s : GatherSetup) (xs : List Timed) (m : Heard) (shut : Bool) → closes_first s xs m ≡ shut → AllLater (taken_at s xs m) (closed_so_far s xs shut)
closed_later s xs m shut h = by (taken_at s xs m) refl where
  by : (o : Option ℕ) → taken_at s xs m ≡ o → AllLater o (closed_so_far s xs shut)
  by None e = all_none (closed_so_far s xs shut)
  by (Some u) e = (before_taken s xs m u shut e h).1

-- ---- loss of lock indicators from the lock records

with_lli_is : (s : GatherSetup) (xs : List Timed) (f : HeardCell → Option KnownLock) (t : ℕ) (ks : List HeardCell) → ((key : HeardCell) → f key ≡ previous s xs t key) → with_lli_by f t ks ≡ cells_with_lli s xs t ks
with_lli_is s xs f t [] h = refl
with_lli_is s xs f t (k ∷ ks) h = ap₂ (λ o l. (kept_cell k (lli_with t k o)) ∷ l) (h k) (with_lli_is s xs f t ks h)

epoch_is : (s : GatherSetup) (xs : List Timed) (f : HeardCell → Option KnownLock) (t : ℕ) → ((key : HeardCell) → f key ≡ previous s xs t key) → epoch_of s.plan f t (offered s t xs) ≡ epoch_at s xs t
epoch_is s xs f t h = grind (arith, common_steps, equal_values, value_tabulated, with_lli_by, with_lli_is)

offered-more : (s : GatherSetup) (xs : List Timed) (m : Heard) (u : ℕ) → taken_at s xs m ≡ Some u → offered s u (xs ++ next s xs m ∷ []) ≡ offered s u xs ++ filter (is_planned s) m.cells
offered-more s xs m u some = grind (arith, common_steps)

none_at : (u : ℕ) (xs : List Timed) → list_any (is_at u) xs ≡ false → filter (is_at u) xs ≡ []
none_at u [] h = refl
none_at u (x ∷ xs) h = grind (arith, common_steps, none_at u xs)

-- The epoch in which the cells of an accepted message are kept.
begun_is : {g : GathererValue} {s : GatherSetup} {xs : List Timed} (m : Heard) {u : ℕ} {shut : Bool} → taken_at s xs m ≡ Some u → closes_first s xs m ≡ shut
    → ((is_pending s xs && not shut) ≡ true → g.epoch ≡ held_at s xs) → Locked g s xs (closed_so_far s xs shut) → g.clock.latest ≡ Some u
    → epoch_begun (greatest_time xs) g ≡ record g { epoch = epoch_of s.plan (lookup g.locks) u (offered s u xs) }
begun_is {g} {s} {xs} m {u} {shut} some h held locks now = ap (λ o. begun_to (greatest_time xs) o) now ∙ by (taken_follows s xs m u some) where
  begun_to : Option ℕ → Option ℕ → GathererValue
  begun_to a b = if is_same a b then g else record g { epoch = empty_epoch (option_map_or (λ t. t) b 0) }

  fresh : is_same (greatest_time xs) (Some u) ≡ false → list_any (is_at u) xs ≡ false → begun_to (greatest_time xs) (Some u) ≡ record g { epoch = epoch_of s.plan (lookup g.locks) u (offered s u xs) }
  fresh other none =
      ap (λ b. if b then g else record g { epoch = empty_epoch u }) other
      ∙ ap (λ l. record g { epoch = epoch_of s.plan (lookup g.locks) u l }) (sym (ap (flat_map (λ (x : Timed). filter (is_planned s) x.message.cells)) (none_at u xs none)))

  by : Follows s xs u → begun_to (greatest_time xs) (Some u) ≡ record g { epoch = epoch_of s.plan (lookup g.locks) u (offered s u xs) }
  by (first e) = fresh (ap (λ o. is_same o (Some u)) e) (none-absent xs u e)
  by (greater t e lt) = fresh (ap (λ o. is_same o (Some u)) e ∙ (grind arith)) (greater-absent xs t u e lt)
  by (equal e c) =
      let same : is_same (greatest_time xs) (Some u) ≡ true = ap (λ o. is_same o (Some u)) e ∙ same_itself (Some u) in
      let at : filter (λ v. nat_lt v u) (times xs) ≡ closed_so_far s xs shut =
      ap (filter (λ v. nat_lt v u)) (sym (times-push_same xs (next s xs m) u some e)) ∙ (before_taken s xs m u shut some h).0 in
      let known : (key : HeardCell) → lookup g.locks key ≡ previous s xs u key =
      λ key. locks.found key ∙ ap (λ ts. latest_in s xs ts key) (sym at) in
      let still : shut ≡ false = not_less (is_closed s u xs) shut u (sym (first_is s xs m u u (own_of s xs m u some) some e) ∙ h) in
      let pending : is_pending s xs ≡ true = ap (λ o. option_map_or (λ t. not (is_closed s t xs)) o false) e ∙ ap not c in
      let same_epoch = held (ap₂ (λ a b. a && not b) pending still) in
      ap (λ b. if b then g else record g { epoch = empty_epoch u }) same
      ∙ ap (λ v. record g { epoch = v }) (same_epoch ∙ ap (λ o. option_map_or (epoch_at s xs) o (empty_epoch 0)) e ∙ sym (epoch_is s xs (lookup g.locks) u known))

-- ---- the value after the step, before the closing

-- An accepted message.
pub loaded_taken : {g : GathererValue} {s : GatherSetup} {xs : List Timed} (m : Heard) {u : ℕ} {shut : Bool} → taken_at s xs m ≡ Some u → closes_first s xs m ≡ shut
    → ((is_pending s xs && not shut) ≡ true → g.epoch ≡ held_at s xs) → Locked g s xs (closed_so_far s xs shut) → g.clock ≡ standing s (xs ++ next s xs m ∷ []) false
    → load (record { state = epoch_begun (greatest_time xs) g; counts = no_counts }) m.cells
    ≡ record { state = record g { epoch = epoch_at s (xs ++ next s xs m ∷ []) u }; counts = counts_after s (offered s u xs) no_counts m.cells }
loaded_taken {g} {s} {xs} m {u} {shut} some h held locks clock =
    let x = next s xs m in
    let ys = xs ++ x ∷ [] in
    let new = new_time s xs x u some (taken_follows s xs m u some) in
    let f = lookup g.locks in
    let now : g.clock.latest ≡ Some u = ap (λ (c : State). c.latest) clock ∙ new.0 in
    let setup : g.clock.setup ≡ s = ap (λ (c : State). c.setup) clock in
    let later = locked-push g s xs x (closed_so_far s xs shut) (closed_later s xs m shut h) locks in
    let known : (key : HeardCell) → lookup g.locks key ≡ previous s ys u key =
    λ key. later.found key ∙ ap (λ ts. latest_in s ys ts key) (sym (before_taken s xs m u shut some h).0) in
    ap (λ v. load (record { state = v; counts = no_counts }) m.cells) (begun_is m some h held locks now)
    ∙ load_is (record g { epoch = epoch_of s.plan f u (offered s u xs) }) no_counts u (offered s u xs) m.cells (ap (λ c. epoch_of c.plan f u (offered s u xs)) (sym setup))
    ∙ ap (λ c. record { state = record g { epoch = epoch_of c.plan f u (offered s u xs ++ filter (is_planned c) m.cells) }; counts = counts_after c (offered s u xs) no_counts m.cells }) setup
    ∙ ap (λ l. record { state = record g { epoch = epoch_of s.plan f u l }; counts = counts_after s (offered s u xs) no_counts m.cells }) (sym (offered-more s xs m u some))
    ∙ ap (λ e. record { state = record g { epoch = e }; counts = counts_after s (offered s u xs) no_counts m.cells }) (epoch_is s ys f u known)

-- A message that isn't accepted doesn't change the epoch.
pub held_same : (s : GatherSetup) (xs : List Timed) (m : Heard) → taken_at s xs m ≡ None → held_at s (xs ++ next s xs m ∷ []) ≡ held_at s xs
held_same s xs m none =
    ap (λ o. option_map_or (epoch_at s (xs ++ next s xs m ∷ [])) o (empty_epoch 0)) (same_time s xs (next s xs m) none).0 ∙ by (greatest_time xs) where
      later : (t : ℕ) → IsLater t (taken_at s xs m)
      later t = subst (IsLater t) (sym none) tt

      by : (g : Option ℕ) → option_map_or (epoch_at s (xs ++ next s xs m ∷ [])) g (empty_epoch 0) ≡ option_map_or (epoch_at s xs) g (empty_epoch 0)
      by None = refl
      by (Some t) = epoch_at-push s xs (next s xs m) t (later t) (times_before s xs (next s xs m) t (λ u e. taken_follows s xs m u e) (later t))

-- ---- before the first message

pub none_locked : (g : GathererValue) (s : GatherSetup) → g.locks ≡ no_locks → Locked g s [] (closed_so_far s [] false)
none_locked g s e = grind (arith, common_steps, none_found, none_recorded, length-replicate {A = Option KnownLock})
