-- A closed epoch is the same after every message.
use Rattle.obs_epoch.proofs.Names.{◌≡◌, ℕ, ◌<◌, List, ◌∷◌, ◌++◌, filter, refl, sym, ap, ◌∙◌, subst, arith, Option, Some, None, nat_lt, append-nil, filter_map, filter-append, GatherSetup, HeardCell, Timed, greatest_time, times, locked_at, cells_with_lli, epoch_at, closed_times, is_shut, common_steps, le-ltb, IfSome, AllByRecursion, all_passed, all_filter, []}
use Rattle.obs_epoch.proofs.ClockLemmas.{Follows, first, greater, equal}
use Rattle.obs_epoch.proofs.ClosedLemmas.{Below, IsLess, when, one_fails, times-push_new, times-push_same, times-push_none, no_times, ends, closed_is, Below-more}

-- The message isn't accepted, or has a later time.
abbrev pub IsLater : ℕ → Option ℕ → Type 0
IsLater t time = IfSome time (λ u. t < u)

earlier : (u t : ℕ) (time : Option ℕ) → u < t → IsLater t time → IsLater u time
earlier u t time lt h = grind arith

locked_all : (s : GatherSetup) (xs : List Timed) (x : Timed) (key : HeardCell) (t : ℕ) (us : List ℕ) → IsLater t x.time → Below t us
    → filter_map (locked_at s (xs ++ x ∷ []) key) us ≡ filter_map (locked_at s xs key) us
locked_all s xs x key t [] h b = refl
locked_all s xs x key t (u ∷ us) h b = grind (arith, common_steps, earlier, locked_all s xs x key t us h b.1)

below_filter : (t : ℕ) (us : List ℕ) → Below t (filter (λ u. nat_lt u t) us)
below_filter t us = all_passed (λ u. u < t) (λ u. nat_lt u t) (λ u e. grind (arith, common_steps, e)) us

with_lli-push : (s : GatherSetup) (xs : List Timed) (x : Timed) (t : ℕ) (cs : List HeardCell) → IsLater t x.time
    → filter (λ u. nat_lt u t) (times (xs ++ x ∷ [])) ≡ filter (λ u. nat_lt u t) (times xs) → cells_with_lli s (xs ++ x ∷ []) t cs ≡ cells_with_lli s xs t cs
with_lli-push s xs x t [] h same = refl
with_lli-push s xs x t (c ∷ cs) h same = grind (arith, common_steps, locked_all, below_filter, with_lli-push s xs x t cs h same)

-- The epoch of time t doesn't change.
pub epoch_at-push : (s : GatherSetup) (xs : List Timed) (x : Timed) (t : ℕ) → IsLater t x.time
    → filter (λ u. nat_lt u t) (times (xs ++ x ∷ [])) ≡ filter (λ u. nat_lt u t) (times xs) → epoch_at s (xs ++ x ∷ []) t ≡ epoch_at s xs t
epoch_at-push s xs x t h same = grind (arith, common_steps, with_lli-push)

-- ---- all closed epochs

abbrev pub Known : GatherSetup → List Timed → Timed → Type 0
Known s xs x = (u : ℕ) → x.time ≡ Some u → Follows s xs u

pub times_before : (s : GatherSetup) (xs : List Timed) (x : Timed) (t : ℕ) → Known s xs x → IsLater t x.time
    → filter (λ u. nat_lt u t) (times (xs ++ x ∷ [])) ≡ filter (λ u. nat_lt u t) (times xs)
times_before s xs x t follow h = by x.time refl where
  added : (u : ℕ) → x.time ≡ Some u → IsLess u (greatest_time xs) → filter (λ v. nat_lt v t) (times (xs ++ x ∷ [])) ≡ filter (λ v. nat_lt v t) (times xs)
  added u some less =
      let later : t < u = subst (IsLater t) some h in
      ap (filter (λ v. nat_lt v t)) (times-push_new xs x u some less) ∙ filter-append (λ v. nat_lt v t) (times xs) (u ∷ [])
      ∙ ap (λ l. filter (λ v. nat_lt v t) (times xs) ++ l) (one_fails (λ v. nat_lt v t) u (le-ltb u t (omega (arith, later)))) ∙ append-nil _

  by_follows : (u : ℕ) → x.time ≡ Some u → Follows s xs u → filter (λ v. nat_lt v t) (times (xs ++ x ∷ [])) ≡ filter (λ v. nat_lt v t) (times xs)
  by_follows u some h1 = grind (arith, first, greater, equal, times-push_same, added)

  by : (time : Option ℕ) → x.time ≡ time → filter (λ v. nat_lt v t) (times (xs ++ x ∷ [])) ≡ filter (λ v. nat_lt v t) (times xs)
  by None none = ap (filter (λ v. nat_lt v t)) (times-push_none xs x none)
  by (Some u) some = by_follows u some (follow u some)

abbrev pub AllLater : Option ℕ → List ℕ → Type 0
AllLater time ts = AllByRecursion (λ t. IsLater t time) ts

pub all_none : (ts : List ℕ) → AllLater None ts
all_none [] = tt
all_none (t ∷ ts) = (tt, all_none ts)

pub closed_below : (s : GatherSetup) (xs : List Timed) (u : ℕ) → Follows s xs u → Below u (closed_times s xs)
closed_below s xs u (first e) = subst (λ l. Below u (filter (is_shut s xs) l)) (sym (no_times xs e)) tt
closed_below s xs u (greater g e lt) = grind (arith, all_filter, Below-more u g (ends xs g e).init lt (ends xs g e).below)
closed_below s xs u (equal e c) =
    let last = ends xs u e in
    subst (Below u) (sym (closed_is s xs u last.init e last.is last.below ∙ ap (λ b. last.init ++ when b u) c ∙ append-nil last.init)) last.below

pub all_later : (s : GatherSetup) (xs : List Timed) (x : Timed) → Known s xs x → AllLater x.time (closed_times s xs)
all_later s xs x follow = by x.time refl where
  by : (time : Option ℕ) → x.time ≡ time → AllLater x.time (closed_times s xs)
  by None none = subst (λ o. AllLater o (closed_times s xs)) (sym none) (all_none (closed_times s xs))
  by (Some u) some = subst (λ o. AllLater o (closed_times s xs)) (sym some) (closed_below s xs u (follow u some))
