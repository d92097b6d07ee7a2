-- A call of the gatherer returns the epoch that the longer list closes.
use Rattle.obs_epoch.proofs.Names.{◌≡◌, ℕ, Bool, true, false, ◌||◌, ◌&&◌, List, [], ◌∷◌, ◌++◌, refl, sym, ap, ap₂, ◌∙◌, subst, arith, Option, Some, None, is_some, nat_lt, append-nil, if◌then◌else◌, option_to_list, map-append, GatherSetup, Heard, Closed, Timed, is_at, greatest_time, is_closed, taken_at, timed, times, is_shut, closed_times, closed_so_far, values_of, is_pending, closes_first, GathererValue, take_step, end_step, noted, HasTakenMessages, held_at, option_map_or, list_any, closes, IsPrefix, closed_at, closed_list, closed_list_at, closed_so_far_of, closed_by, returned_epoch, is_done, whole_list, HasGatheredEpochs, thinned_if, State, step_by, common_steps, prefix_self, same_Some, and_parts}
use Rattle.std.proofs.ByRecursion.{kept_by_passes}
use Rattle.obs_epoch.proofs.ThinnedLemmas.{Before, closed_one, thinned_gathers}
use Rattle.obs_epoch.proofs.TimesLemmas.{next, timed-push, greater-absent, none-absent}
use Rattle.obs_epoch.proofs.ClockLemmas.{Follows, first, greater, equal, new_time, same_time, standing as standing_at, takes}
use Rattle.obs_epoch.proofs.ClosedLemmas.{taken_follows}
use Rattle.obs_epoch.proofs.ClosingLemmas.{closing, refused}
use Rattle.obs_epoch.proofs.OneStepLemmas.{closed_later}
use Rattle.obs_epoch.proofs.TakeLemmas.{taken, closes_it, ended, Ended, times_taken, time_taken, IsSet, no_point_given, same_values, clock_stepped, counts_stepped, handed_is, ended_is, marks_stepped, clock_is}
use Rattle.obs_epoch.proofs.HistoryLemmas.{each_front, each_back, list-push, before_all, before-push, pending_open, with_pending}

-- ---- which epoch is new

closed_absent : (s : GatherSetup) (t : ℕ) (xs : List Timed) → list_any (is_at t) xs ≡ false → is_closed s t xs ≡ false
closed_absent s t [] h = refl
closed_absent s t (x ∷ xs) h = grind (arith, common_steps, closed_absent s t xs)

open_by : (s : GatherSetup) (xs : List Timed) (t : ℕ) → is_closed s t xs ≡ false → option_map_or (λ u. nat_lt t u) (greatest_time xs) false ≡ false → is_shut s xs t ≡ false
open_by s xs t a b = ap₂ (λ (p q : Bool). p || q) a b

open_follows : (s : GatherSetup) (xs : List Timed) (u : ℕ) → Follows s xs u → is_shut s xs u ≡ false
open_follows s xs u h0 = grind (arith, first, open_by, closed_absent, none-absent, greater, greater-absent, equal)

-- An epoch that a step closes wasn't closed before.
new_open : {g : GathererValue} {s : GatherSetup} {ms : List Heard} (m : Heard) {shut : Bool} → HasTakenMessages g s ms shut → closes_first s (timed s ms) m ≡ shut
    → (t : ℕ) → closes g.clock m ≡ Some t → is_shut s (timed s ms) t ≡ false
new_open {g} {s} {ms} m {shut} h early t e = by (taken_at s xs m) refl where
  xs : List Timed
  xs = timed s ms

  now : greatest_time (timed s (ms ++ m ∷ [])) ≡ Some t
  now = time_taken m h early t e

  by : (o : Option ℕ) → taken_at s xs m ≡ o → is_shut s xs t ≡ false
  by None none =
      let same : greatest_time xs ≡ Some t = sym (same_time s xs (next s xs m) none).0 ∙ ap greatest_time (sym (timed-push s ms m)) ∙ now in
      pending_open s xs t same (grind (arith, common_steps, clock_is, takes, refused, and_parts))
  by (Some u) some =
      let follow = taken_follows s xs m u some in
      let is : u ≡ t = same_Some u t (sym (new_time s xs (next s xs m) u some follow).0 ∙ ap greatest_time (sym (timed-push s ms m)) ∙ now) in
      subst (λ v. is_shut s xs v ≡ false) is (open_follows s xs u follow)

-- ---- the list that was returned

-- The epochs that were closed before are the same.
pub keeps : (s : GatherSetup) (ms : List Heard) (m : Heard) (shut : Bool) (o : Option ℕ) → closes_first s (timed s ms) m ≡ shut
    → closed_so_far s (timed s (ms ++ m ∷ [])) false ≡ closed_so_far s (timed s ms) shut ++ option_to_list o
    → closed_list_at s (ms ++ m ∷ []) (closed_so_far s (timed s (ms ++ m ∷ [])) false) ≡ closed_list_at s ms (closed_so_far s (timed s ms) shut) ++ closed_list_at s (ms ++ m ∷ []) (option_to_list o)
keeps s ms m shut o early grown = grind (arith, append-nil, kept_by_passes, map-append, list-push, closed_later, each_front)

shut_new : (s : GatherSetup) (ys : List Timed) (before : List ℕ) (t : ℕ) → closed_so_far s ys false ≡ before ++ t ∷ [] → is_shut s ys t ≡ true
shut_new s ys before t grown = grind (arith, append-nil, each_back, kept_by_passes, kept_by_passes (is_shut s ys) (times ys))

-- The epoch that a step closes.
new_closed : {g : GathererValue} {s : GatherSetup} {ms : List Heard} (m : Heard) {shut : Bool} → HasTakenMessages g s ms shut → closes_first s (timed s ms) m ≡ shut → IsSet m
    → (o : Option ℕ) → closes g.clock m ≡ o → (take_step g m).state.just_closed ≡ is_some o
    → closed_one (take_step g m).state ≡ closed_list_at s (ms ++ m ∷ []) (option_to_list o)
new_closed {g} m h early given None e has = let v = (take_step g m).state in ap (λ b. closed_by (if b then Some (v.epoch) else None) v.values) has
new_closed {g} {s} {ms} m {shut} h early given (Some t) e has = grind (arith, shut_new, before-push, before_all, taken g s ms m shut h early, time_taken m h early t e, new_open m h early t e, times_taken g s ms m shut h early, same_values s ms m (no_point_given g.clock m t given e), no_point_given g.clock m t given e)

-- The pending epoch.
pending_closed : (v : GathererValue) (s : GatherSetup) (ms : List Heard) {t : ℕ} → greatest_time (timed s ms) ≡ Some t → is_pending s (timed s ms) ≡ true
    → v.epoch ≡ held_at s (timed s ms) → v.values ≡ values_of s ms → v.just_closed ≡ true → closed_one v ≡ closed_list_at s ms (option_to_list (greatest_time (timed s ms)))
pending_closed v s ms e p epoch values has = grind (arith, common_steps, before_all, pending_open)

-- ---- the calls

pub not_done : (v : GathererValue) (s : GatherSetup) (ms : List Heard) (again : Option Heard) → v.has_ended ≡ false → is_done v s ms again ≡ is_some again
not_done v s ms again going = grind (arith, common_steps, going)

-- A message that closes an epoch has shut it.
closed_shut : (g : State) (m : Heard) → is_some (closes g m) ≡ true → (step_by g m).pending ≡ false
closed_shut g m closes = grind (arith, common_steps, closes)

before_of : {g : GathererValue} {s : GatherSetup} {ms : List Heard} {es : List Closed} {again : Option Heard} (w : GathererValue) → HasGatheredEpochs g s ms es again → w.marks ≡ g.marks → w.counts ≡ g.counts
    → Before w s (closed_so_far_of g s ms again) es
before_of {g} {s} {ms} {es} {again} w h marks counts = grind arith

-- A message is processed.
pub gathers_taken : {g : GathererValue} {s : GatherSetup} {ms : List Heard} {es : List Closed} {again : Option Heard} (m : Heard) → HasGatheredEpochs g s ms es again → g.has_ended ≡ false
    → closes_first s (timed s ms) m ≡ is_some again → IsSet m → (closed : Bool) → (take_step g m).state.just_closed ≡ closed
    → HasGatheredEpochs (thinned_if closed (take_step g m).state) s (ms ++ m ∷ []) (es ++ returned_epoch (thinned_if closed (take_step g m).state)) None
gathers_taken {g} {s} {ms} {es} {again} m h going early given =
    let v = (take_step g m).state in
    let ns = ms ++ m ∷ [] in
    let shut = is_some again in
    let before = closed_so_far_of g s ms again in
    let standing = subst (HasTakenMessages g s ms) (not_done g s ms again going) h.standing in
    let was : before ≡ closed_list_at s ms (closed_so_far s (timed s ms) shut) = ap (λ b. closed_list_at s ms (closed_so_far s (timed s ms) b)) (not_done g s ms again going) in
    let goes : v.has_ended ≡ false = ended_is g m ∙ going in
    let o = closes g.clock m in
    let grown = times_taken g s ms m shut standing early in
    let t1 = taken g s ms m shut standing early in
    let all : closed_so_far_of v s ns None ≡ closed_list_at s ns (closed_so_far s (timed s ns) false) = ap (λ b. closed_list_at s ns (closed_so_far s (timed s ns) b)) (not_done v s ns None goes) in
    let list : closed_so_far_of v s ns None ≡ before ++ closed_one v =
    all ∙ keeps s ms m shut o early grown ∙ ap₂ (λ a b. a ++ b) (sym was) (sym (new_closed m standing early given o refl (handed_is g m))) in
    let known : closed_so_far_of v s ns None ≡ (if v.has_ended then whole_list s ns else closed_list s ns) =
    all ∙ ap (closed_list_at s ns) (append-nil (closed_times s (timed s ns))) ∙ ap (λ b. if b then whole_list s ns else closed_list s ns) (sym goes) in
    thinned_gathers v s ns before es None (record {
      standing = subst (HasTakenMessages v s ns) (sym (not_done v s ns None goes)) t1.after;
      list = list;
      closed = λ has.
          let some : is_some o ≡ true = sym (handed_is g m) ∙ has in (
            ap (λ (c : State). c.pending) (clock_stepped g m) ∙ closed_shut g.clock m some,
            t1.closed some,
          );
      known = λ _. known;
      first = subst (λ l. IsPrefix (closed_so_far_of v s ns None) (if v.has_ended then whole_list s l else closed_list s l)) (sym (append-nil ns)) (subst (IsPrefix (closed_so_far_of v s ns None)) known (prefix_self (closed_so_far_of v s ns None)));
      fits = tt;
    }) (before_of v h (marks_stepped g m) (counts_stepped g m))

-- The pending epoch is closed first.
pub gathers_first : {g : GathererValue} {s : GatherSetup} {ms : List Heard} {es : List Closed} (m : Heard) → HasGatheredEpochs g s ms es None → g.has_ended ≡ false
    → closes_first s (timed s ms) m ≡ true → m.point ≡ None → (closed : Bool) → (take_step g m).state.just_closed ≡ closed
    → HasGatheredEpochs (thinned_if closed (take_step g m).state) s ms (es ++ returned_epoch (thinned_if closed (take_step g m).state)) (Some m)
gathers_first {g} {s} {ms} {es} m h going early point closed is = by (greatest_time (timed s ms)) refl where
  xs : List Timed
  xs = timed s ms

  v : GathererValue
  v = (take_step g m).state

  standing : HasTakenMessages g s ms false
  standing = subst (HasTakenMessages g s ms) (not_done g s ms None going) h.standing

  was : closed_so_far_of g s ms None ≡ closed_list_at s ms (closed_so_far s xs false)
  was = ap (λ b. closed_list_at s ms (closed_so_far s xs b)) (not_done g s ms None going)

  goes : v.has_ended ≡ false
  goes = ended_is g m ∙ going

  pending : is_pending s xs ≡ true
  pending = by_pending (is_pending s xs) refl where
    by_pending : (p : Bool) → is_pending s xs ≡ p → p ≡ true
    by_pending p e = grind (arith, common_steps, e)

  by : (o : Option ℕ) → greatest_time xs ≡ o → HasGatheredEpochs (thinned_if closed v) s ms (es ++ returned_epoch (thinned_if closed v)) (Some m)
  by None e = absurd (grind (arith, e, pending))
  by (Some t) e =
      let f = closes_it g s ms m standing early point in
      let has : v.just_closed ≡ true = handed_is g m ∙ f.has in
      let before = closed_so_far_of g s ms None in
      let list : closed_list_at s ms (closed_so_far s xs true) ≡ before ++ closed_one v =
      map-append (closed_at s ms) (closed_times s xs) (option_to_list (greatest_time xs))
      ∙ ap₂ (λ a b. a ++ b) (ap (closed_list_at s ms) (sym (append-nil (closed_times s xs))) ∙ sym was) (sym (pending_closed v s ms e pending f.closed f.after.values has)) in
      let ns = ms ++ m ∷ [] in
      let o = closes (standing_at s xs true) m in
      let grown = ap (λ l. closed_so_far s l false) (timed-push s ms m) ∙ closing s xs m true early in
      let kept = keeps s ms m true o early grown in
      thinned_gathers v s ms before es (Some m) (record {
        standing = f.after;
        list = list;
        closed = λ _. (ap (λ (c : State). c.pending) (clock_stepped g m) ∙ closed_shut g.clock m f.has, f.closed);
        known = λ never. absurd (grind (arith, never));
        first = subst (λ b. IsPrefix (closed_list_at s ms (closed_so_far s xs true)) (if b then whole_list s ns else closed_list s ns)) (sym goes) (
          closed_list_at s ns (option_to_list o),
          ap (closed_list_at s ns) (sym (append-nil (closed_times s (timed s ns)))) ∙ kept,
        );
        fits = early;
      }) (before_of v h (marks_stepped g m) (counts_stepped g m)) closed is

end_same : {A : Type 0} (f : GathererValue → A) → ((h : GathererValue) → f (noted h) ≡ f h) → (b : Bool) (h : GathererValue) → f (if b then noted h else h) ≡ f h
end_same f same b h = grind arith

-- No message follows.
pub gathers_ended : (g : GathererValue) (s : GatherSetup) (ms : List Heard) (es : List Closed) → HasGatheredEpochs g s ms es None → g.has_ended ≡ false
    → (closed : Bool) → g.clock.pending ≡ closed
    → HasGatheredEpochs (thinned_if closed (end_step g)) s ms (es ++ returned_epoch (thinned_if closed (end_step g))) None
gathers_ended g s ms es h going closed is = thinned_gathers v s ms before es None (record {
  standing = subst (HasTakenMessages v s ms) (sym done) (subst (HasTakenMessages v s ms) pending f.after);
  list = list;
  closed = λ b. (
    end_same (λ v. v.clock.pending) (λ h. refl) g.clock.pending _,
    f.closed (sym (grind (arith, common_steps)) ∙ b),
  );
  known = λ _. known;
  first = subst (λ l. IsPrefix (closed_so_far_of v s ms None) (if v.has_ended then whole_list s l else closed_list s l)) (sym (append-nil ms)) (subst (IsPrefix (closed_so_far_of v s ms None)) known (prefix_self (closed_so_far_of v s ms None)));
  fits = tt;
}) (before_of v h (end_same (λ v. v.marks) (λ h. refl) g.clock.pending _) (end_same (λ v. v.counts) (λ h. refl) g.clock.pending _)) closed ((grind (arith, common_steps)) ∙ is) where
  xs : List Timed
  xs = timed s ms

  v : GathererValue
  v = end_step g

  before : List Closed
  before = closed_so_far_of g s ms None

  standing : HasTakenMessages g s ms false
  standing = subst (HasTakenMessages g s ms) (not_done g s ms None going) h.standing

  was : before ≡ closed_list_at s ms (closed_times s xs)
  was = ap (λ b. closed_list_at s ms (closed_so_far s xs b)) (not_done g s ms None going) ∙ ap (closed_list_at s ms) (append-nil (closed_times s xs))

  f : Ended g s ms false
  f = ended g s ms false standing

  pending : g.clock.pending ≡ is_pending s xs
  pending = f.was ∙ grind (arith, common_steps)

  over : v.has_ended ≡ true
  over = grind (arith, common_steps, refl)

  done : is_done v s ms None ≡ is_pending s xs
  done = ap (λ b. b && is_pending s xs) over

  has : v.just_closed ≡ is_pending s xs
  has = grind (arith, common_steps) ∙ pending

  last : (p : Bool) → is_pending s xs ≡ p → closed_one v ≡ closed_list_at s ms (if p then option_to_list (greatest_time xs) else [])
  last false p = ap (λ b. closed_by (if b then Some (v.epoch) else None) v.values) (has ∙ p)
  last true p = by (greatest_time xs) refl where
    by : (o : Option ℕ) → greatest_time xs ≡ o → closed_one v ≡ closed_list_at s ms (option_to_list (greatest_time xs))
    by o e = grind (arith, pending_closed, has, pending, f, v)

  all : closed_so_far_of v s ms None ≡ closed_list_at s ms (closed_so_far s xs (is_pending s xs))
  all = ap (λ b. closed_list_at s ms (closed_so_far s xs b)) done

  list : closed_so_far_of v s ms None ≡ before ++ closed_one v
  list = grind (arith, map-append, all, was, xs, last)

  known : closed_so_far_of v s ms None ≡ (if v.has_ended then whole_list s ms else closed_list s ms)
  known = all ∙ ap (closed_list_at s ms) (with_pending s xs) ∙ ap (λ b. if b then whole_list s ms else closed_list s ms) (sym over)

pub thinned_ended : (b : Bool) (w : GathererValue) → (thinned_if b w).has_ended ≡ w.has_ended
thinned_ended b w = grind arith
