-- The closed epochs of a list after one more message.
use Rattle.obs_epoch.proofs.Names.{◌≡◌, ℕ, ◌<◌, ◌≤◌, ◌⊎◌, inl, inr, Bool, true, false, not, ◌&&◌, List, ◌∷◌, ◌++◌, filter, refl, ap, ap₂, ◌∙◌, subst, arith, Option, Some, None, nat_lt, append_assoc, append-nil, if◌then◌else◌, cond, filter-append, lt-ltb, le-ltb, GatherSetup, Heard, ends_epoch, Timed, max_known, greatest_time, is_closed, taken_at, timed, time_of, is_late, times, is_shut, closed_times, option_map_or, common_steps, AllByRecursion, all_filter, cases_lt, or_right, same_Some, []}
use Rattle.std.proofs.ByRecursion.{All-append, All-weaker}
use Rattle.obs_epoch.proofs.TimesLemmas.{greatest-push, greatest-present, greater-absent, none-absent, closed-push, closed-new, next, timed-push}
use Rattle.obs_epoch.proofs.ClockLemmas.{at_self, Follows, follows, first, greater, equal}

-- All are less than g.
abbrev pub Below : ℕ → List ℕ → Type 0
Below g ts = AllByRecursion (λ t. t < g) ts

passes_none : (p : ℕ → Bool) (g : ℕ) (ts : List ℕ) → ((t : ℕ) → t < g → p t ≡ false) → Below g ts → filter p ts ≡ []
passes_none p g [] all h = refl
passes_none p g (t ∷ ts) all h = ap (λ b. cond b (t ∷ filter p ts) (filter p ts)) (all t h.0) ∙ passes_none p g ts all h.1

pub passes_all : (p : ℕ → Bool) (g : ℕ) (ts : List ℕ) → ((t : ℕ) → t < g → p t ≡ true) → Below g ts → filter p ts ≡ ts
passes_all p g [] all h = refl
passes_all p g (t ∷ ts) all h = ap (λ b. cond b (t ∷ filter p ts) (filter p ts)) (all t h.0) ∙ ap (λ l. t ∷ l) (passes_all p g ts all h.1)

pub one_fails : (p : ℕ → Bool) (t : ℕ) → p t ≡ false → filter p (t ∷ []) ≡ []
one_fails p t e = ap (λ b. cond b (t ∷ []) []) e

-- The greatest time is the last one.
pub record Ends (ts : List ℕ) (g : ℕ) : Type 0 where
  pub init : List ℕ
  pub is : ts ≡ init ++ g ∷ []
  pub below : Below g init

abbrev pub front : Option ℕ → List ℕ → List ℕ
front time ts = option_map_or (λ t. t ∷ filter (λ u. nat_lt t u) ts) time ts

ends_step : (time rest : Option ℕ) (ts : List ℕ) (g : ℕ) → max_known time rest ≡ Some g → ((h : ℕ) → rest ≡ Some h → Ends ts h) → (rest ≡ None → ts ≡ [])
    → Ends (front time ts) g
ends_step None rest ts g e some none = some g e
ends_step (Some t) None ts g e some none = grind (arith, common_steps, same_Some)
ends_step (Some t) (Some h) ts g e some none = by (cases_lt t h) where
  last : Ends ts h
  last = some h refl

  cut : filter (λ u. nat_lt t u) ts ≡ filter (λ u. nat_lt t u) last.init ++ filter (λ u. nat_lt t u) (h ∷ [])
  cut = ap (filter (λ u. nat_lt t u)) last.is ∙ filter-append (λ u. nat_lt t u) last.init (h ∷ [])

  by : (t < h) ⊎ (h ≤ t) → Ends (t ∷ filter (λ u. nat_lt t u) ts) g
  by (inl lt) =
      let same : h ≡ g = omega (arith, same_Some _ _ e, lt) in
      subst (λ v. Ends (t ∷ filter (λ u. nat_lt t u) ts) v) same (record {
        init = t ∷ filter (λ u. nat_lt t u) last.init;
        is = ap (λ l. t ∷ l) (cut ∙ ap (λ l. filter (λ u. nat_lt t u) last.init ++ l) (ap (λ b. cond b (h ∷ []) []) (lt-ltb t h lt)));
        below = (lt, all_filter (λ v. v < h) (λ u. nat_lt t u) last.init last.below);
      })
  by (inr le) =
      let same : t ≡ g = omega (arith, same_Some _ _ e, le) in
      let nothing : filter (λ u. nat_lt t u) ts ≡ [] =
      cut ∙ ap₂ (λ a b. a ++ b) (passes_none (λ u. nat_lt t u) h last.init (λ u lt. le-ltb t u (omega arith)) last.below) (one_fails (λ u. nat_lt t u) h (le-ltb t h le)) in
      record { init = []; is = ap₂ (λ a l. a ∷ l) same nothing; below = tt }

no_times_step : (time rest : Option ℕ) (ts : List ℕ) → max_known time rest ≡ None → (rest ≡ None → ts ≡ []) → front time ts ≡ []
no_times_step time rest ts e none = grind arith

pub no_times : (xs : List Timed) → greatest_time xs ≡ None → times xs ≡ []
no_times [] e = refl
no_times (x ∷ xs) e = no_times_step x.time (greatest_time xs) (times xs) e (no_times xs)

pub ends : (xs : List Timed) (g : ℕ) → greatest_time xs ≡ Some g → Ends (times xs) g
ends [] g e = absurd (grind arith)
ends (x ∷ xs) g e = ends_step x.time (greatest_time xs) (times xs) g e (ends xs) (no_times xs)

-- ---- one more message

pub times-push_none : (xs : List Timed) (x : Timed) → x.time ≡ None → times (xs ++ x ∷ []) ≡ times xs
times-push_none [] x e = ap (λ t. front t []) e
times-push_none (y ∷ ys) x e = ap (front y.time) (times-push_none ys x e)

abbrev pub IsLess : ℕ → Option ℕ → Type 0
IsLess u None = Unit {0}
IsLess u (Some g) = g < u

push_step : (time rest : Option ℕ) (u : ℕ) (ts new : List ℕ) → IsLess u (max_known time rest) → (IsLess u rest → new ≡ ts ++ u ∷ []) → front time new ≡ front time ts ++ u ∷ []
push_step time rest u ts new h r = grind (arith, filter-append, lt-ltb)

pub times-push_new : (xs : List Timed) (x : Timed) (u : ℕ) → x.time ≡ Some u → IsLess u (greatest_time xs) → times (xs ++ x ∷ []) ≡ times xs ++ u ∷ []
times-push_new [] x u e h = ap (λ t. front t []) e
times-push_new (y ∷ ys) x u e h = push_step y.time (greatest_time ys) u (times ys) (times (ys ++ x ∷ [])) h (times-push_new ys x u e)

same_step : (time rest : Option ℕ) (u : ℕ) (ts new : List ℕ) → max_known time rest ≡ Some u → (rest ≡ Some u → new ≡ ts) → (IsLess u rest → new ≡ ts ++ u ∷ [])
    → front time new ≡ front time ts
same_step time rest u ts new e same more = grind (arith, filter-append, one_fails, le-ltb, append-nil, same_Some)

pub times-push_same : (xs : List Timed) (x : Timed) (u : ℕ) → x.time ≡ Some u → greatest_time xs ≡ Some u → times (xs ++ x ∷ []) ≡ times xs
times-push_same [] x u e h = absurd (grind arith)
times-push_same (y ∷ ys) x u e h = grind (arith, same_step y.time (greatest_time ys) u (times ys) (times (ys ++ x ∷ [])) h (times-push_same ys x u e) (times-push_new ys x u e))

-- ---- which epochs are closed

shut_at : (s : GatherSetup) (ys : List Timed) (g : ℕ) → greatest_time ys ≡ Some g → is_shut s ys g ≡ is_closed s g ys
shut_at s ys g e = grind (arith, common_steps, (ap (λ o. option_map_or (λ u. nat_lt g u) o false) e ∙ le-ltb g g (omega arith)))

abbrev pub when : Bool → ℕ → List ℕ
when b g = if b then g ∷ [] else []

-- The closed epochs are all but the last, and the last if it is closed.
pub closed_is : (s : GatherSetup) (ys : List Timed) (g : ℕ) (init : List ℕ) → greatest_time ys ≡ Some g → times ys ≡ init ++ g ∷ [] → Below g init
    → closed_times s ys ≡ init ++ when (is_closed s g ys) g
closed_is s ys g init e is below = grind (arith, common_steps, filter-append, passes_all, or_right, lt-ltb, shut_at)

pub Below-more : (u g : ℕ) (ts : List ℕ) → g < u → Below g ts → Below u (ts ++ g ∷ [])
Below-more u g ts lt h = All-append (λ t. t < u) ts (g ∷ []) (All-weaker (λ t. t < g) (λ t. t < u) (λ t below. omega (arith, lt, below)) ts h) (lt, tt)

-- A message that isn't accepted closes the pending epoch if it ends its epoch.
pub closed-push_none : (s : GatherSetup) (xs : List Timed) (x : Timed) (g : ℕ) → x.time ≡ None → greatest_time xs ≡ Some g
    → closed_times s (xs ++ x ∷ []) ≡ closed_times s xs ++ when (not (is_closed s g xs) && ends_epoch s x.message) g
closed-push_none s xs x g none e = grind (arith, greatest-push, closed_is, times-push_none, closed-push, append-nil, closed_is s xs g (ends xs g e).init e (ends xs g e).is (ends xs g e).below, closed-push s g xs x (greatest-present xs g e))

-- An accepted message of a greater time closes the pending epoch, and its own epoch if it ends that.
pub closed-push_greater : (s : GatherSetup) (xs : List Timed) (x : Timed) (g u : ℕ) → x.time ≡ Some u → greatest_time xs ≡ Some g → g < u
    → closed_times s (xs ++ x ∷ []) ≡ (closed_times s xs ++ when (not (is_closed s g xs)) g) ++ when (ends_epoch s x.message) u
closed-push_greater s xs x g u some e lt = grind (arith, greatest-push, closed_is, times-push_new, Below-more, closed-new, at_self, append-nil, closed_is s xs g (ends xs g e).init e (ends xs g e).is (ends xs g e).below, Below-more u g (ends xs g e).init lt (ends xs g e).below, closed-new s u xs x (greater-absent xs g u e lt) (at_self u x.time some))

-- An accepted message of the greatest time closes its epoch if it ends its epoch.
pub closed-push_same : (s : GatherSetup) (xs : List Timed) (x : Timed) (g : ℕ) → x.time ≡ Some g → greatest_time xs ≡ Some g → is_closed s g xs ≡ false
    → closed_times s (xs ++ x ∷ []) ≡ closed_times s xs ++ when (ends_epoch s x.message) g
closed-push_same s xs x g some e not_closed = grind (arith, greatest-push, closed_is, times-push_same, closed-push, append-nil, closed_is s xs g (ends xs g e).init e (ends xs g e).is (ends xs g e).below, closed-push s g xs x (greatest-present xs g e))

-- The first accepted message.
pub closed-push_first : (s : GatherSetup) (xs : List Timed) (x : Timed) (u : ℕ) → x.time ≡ Some u → greatest_time xs ≡ None
    → closed_times s (xs ++ x ∷ []) ≡ closed_times s xs ++ when (ends_epoch s x.message) u
closed-push_first s xs x u some e = grind (arith, times-push_new, greatest-push xs x, closed_is s (xs ++ x ∷ []) u, no_times xs e, closed-new s u xs x (none-absent xs u e) (at_self u x.time some))

-- After any message the closed epochs are the same, and more may follow.
pub grows : (s : GatherSetup) (xs : List Timed) (x : Timed) → ((u : ℕ) → x.time ≡ Some u → Follows s xs u)
    → (more : List ℕ) × (closed_times s (xs ++ x ∷ []) ≡ closed_times s xs ++ more)
grows s xs x follow = by_time x.time (greatest_time xs) refl refl where
  by_follows : (u : ℕ) → x.time ≡ Some u → Follows s xs u → (more : List ℕ) × (closed_times s (xs ++ x ∷ []) ≡ closed_times s xs ++ more)
  by_follows u some (first e) = (when (ends_epoch s x.message) u, closed-push_first s xs x u some e)
  by_follows u some (greater t e lt) = (
    when (not (is_closed s t xs)) t ++ when (ends_epoch s x.message) u,
    closed-push_greater s xs x t u some e lt ∙ append_assoc (closed_times s xs) (when (not (is_closed s t xs)) t) (when (ends_epoch s x.message) u),
  )
  by_follows u some (equal e c) = (when (ends_epoch s x.message) u, closed-push_same s xs x u some e c)

  by_time : (time g : Option ℕ) → x.time ≡ time → greatest_time xs ≡ g → (more : List ℕ) × (closed_times s (xs ++ x ∷ []) ≡ closed_times s xs ++ more)
  by_time None None none e = ([], grind (arith, common_steps, times-push_none, no_times, append-nil))
  by_time None (Some g) none e = (when (not (is_closed s g xs) && ends_epoch s x.message) g, closed-push_none s xs x g none e)
  by_time (Some u) g some e = by_follows u some (follow u some)

-- An accepted message isn't late.
pub taken_follows : (s : GatherSetup) (xs : List Timed) (m : Heard) (u : ℕ) → taken_at s xs m ≡ Some u → Follows s xs u
taken_follows s xs m u e = by_tow m.tow refl where
  by_late : (tow : ℕ) (late : Bool) → m.tow ≡ Some tow → is_late s xs tow ≡ late → Follows s xs u
  by_late tow true some late = absurd (grind (arith, e, some, late))
  by_late tow false some late = let same : time_of s xs tow ≡ u = grind (arith, e, some, late) in subst (Follows s xs) same (follows s xs tow late)

  by_tow : (tow : Option ℕ) → m.tow ≡ tow → Follows s xs u
  by_tow None none = absurd (grind (arith, e, none))
  by_tow (Some tow) some = by_late tow (is_late s xs tow) some refl

pub grows_by : (s : GatherSetup) (ms : List Heard) (m : Heard) → (more : List ℕ) × (closed_times s (timed s (ms ++ m ∷ [])) ≡ closed_times s (timed s ms) ++ more)
grows_by s ms m = grind (arith, grows s (timed s ms) (next s (timed s ms) m) (taken_follows s (timed s ms) m), timed-push s ms m)
