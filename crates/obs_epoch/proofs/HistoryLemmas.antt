-- The epochs of a list after one more message, with their station values.
use Rattle.obs_epoch.proofs.Names.{◌≡◌, ℕ, Bool, true, false, not, List, ◌∷◌, ◌++◌, refl, sym, ap, ap₂, ◌∙◌, subst, arith, Option, Some, None, append_assoc, append-nil, if◌then◌else◌, option_to_list, map-append, GatherSetup, Heard, Timed, greatest_time, is_closed, taken_at, timed, times, is_shut, closed_times, is_pending, option_map_or, IsPrefix, open_after, before_closing, closed_at, closed_list, closed_list_at, whole_list, common_steps, prefix_self, AllByRecursion, both_ways, []}
use Rattle.std.proofs.ByRecursion.{All-weaker, kept_by_passes}
use Rattle.obs_epoch.proofs.TimesLemmas.{next, timed-push, greatest-push}
use Rattle.obs_epoch.proofs.ClosedLemmas.{ends, no_times, closed_is, taken_follows, grows_by}
use Rattle.obs_epoch.proofs.EpochLemmas.{AllLater, IsLater, epoch_at-push, times_before, all_later}

-- ---- a closed epoch stays closed

closed-more : (s : GatherSetup) (t : ℕ) (xs : List Timed) (x : Timed) → is_closed s t xs ≡ true → is_closed s t (xs ++ x ∷ []) ≡ true
closed-more s t [] x h = absurd (grind (arith, h))
closed-more s t (y ∷ ys) x h = grind (arith, common_steps, closed-more s t ys x)

pub shut-push : (s : GatherSetup) (t : ℕ) (ms : List Heard) (m : Heard) → is_shut s (timed s ms) t ≡ true → is_shut s (timed s (ms ++ m ∷ [])) t ≡ true
shut-push s t ms m h = ap (λ l. is_shut s l t) (timed-push s ms m) ∙ (grind (arith, common_steps, closed-more, greatest-push))

shut-append : (s : GatherSetup) (t : ℕ) (ms more : List Heard) → is_shut s (timed s ms) t ≡ true → is_shut s (timed s (ms ++ more)) t ≡ true
shut-append s t ms [] h = ap (λ l. is_shut s (timed s l) t) (append-nil ms) ∙ h
shut-append s t ms (m ∷ more) h = grind (arith, common_steps, (shut-append s t (ms ++ m ∷ []) more (shut-push s t ms m h)))

-- ---- the messages before a closing

still_open : (s : GatherSetup) (t : ℕ) (ms more : List Heard) → is_shut s (timed s (ms ++ more)) t ≡ false → is_shut s (timed s ms) t ≡ false
still_open s t ms more h = grind (arith, common_steps, shut-append)

-- If the epoch isn't closed: all messages.
open_all : (s : GatherSetup) (t : ℕ) (earlier ms : List Heard) → is_shut s (timed s (earlier ++ ms)) t ≡ false → open_after s t earlier ms ≡ earlier ++ ms
open_all s t earlier [] h = sym (append-nil earlier)
open_all s t earlier (m ∷ ms) h =
    let same = append_assoc earlier (m ∷ []) ms in
    let h2 : is_shut s (timed s ((earlier ++ m ∷ []) ++ ms)) t ≡ false = ap (λ l. is_shut s (timed s l) t) same ∙ h in
    cc (still_open s t (earlier ++ m ∷ []) ms h2, open_all s t (earlier ++ m ∷ []) ms h2, same)

-- If the last message closes the epoch: all messages but that.
open_last : (s : GatherSetup) (t : ℕ) (earlier ms : List Heard) (m : Heard) → is_shut s (timed s (earlier ++ ms)) t ≡ false → is_shut s (timed s ((earlier ++ ms) ++ m ∷ [])) t ≡ true
    → open_after s t earlier (ms ++ m ∷ []) ≡ earlier ++ ms
open_last s t earlier [] m h k = grind (arith, common_steps, append-nil)
open_last s t earlier (n ∷ ms) m h k =
    let same = append_assoc earlier (n ∷ []) ms in
    let h2 : is_shut s (timed s ((earlier ++ n ∷ []) ++ ms)) t ≡ false = ap (λ l. is_shut s (timed s l) t) same ∙ h in
    let k2 : is_shut s (timed s (((earlier ++ n ∷ []) ++ ms) ++ m ∷ [])) t ≡ true = ap (λ l. is_shut s (timed s (l ++ m ∷ [])) t) same ∙ k in
    cc (still_open s t (earlier ++ n ∷ []) ms h2, open_last s t (earlier ++ n ∷ []) ms m h2 k2, same)

-- If the epoch was closed before: the same messages as before.
open_same : (s : GatherSetup) (t : ℕ) (earlier ms : List Heard) (m : Heard) → is_shut s (timed s earlier) t ≡ false → is_shut s (timed s (earlier ++ ms)) t ≡ true
    → open_after s t earlier (ms ++ m ∷ []) ≡ open_after s t earlier ms
open_same s t earlier [] m h k = absurd (both_ways _ h (ap (λ l. is_shut s (timed s l) t) (sym (append-nil earlier)) ∙ k))
open_same s t earlier (n ∷ ms) m h k = by (is_shut s (timed s (earlier ++ n ∷ [])) t) refl (λ e. open_same s t (earlier ++ n ∷ []) ms m e k2) where
  k2 : is_shut s (timed s ((earlier ++ n ∷ []) ++ ms)) t ≡ true
  k2 = ap (λ l. is_shut s (timed s l) t) (append_assoc earlier (n ∷ []) ms) ∙ k

  by : (b : Bool) → is_shut s (timed s (earlier ++ n ∷ [])) t ≡ b
      → (is_shut s (timed s (earlier ++ n ∷ [])) t ≡ false → open_after s t (earlier ++ n ∷ []) (ms ++ m ∷ []) ≡ open_after s t (earlier ++ n ∷ []) ms)
      → (if b then earlier else open_after s t (earlier ++ n ∷ []) (ms ++ m ∷ [])) ≡ (if b then earlier else open_after s t (earlier ++ n ∷ []) ms)
  by b e more = grind arith

pub before_all : (s : GatherSetup) (t : ℕ) (ms : List Heard) → is_shut s (timed s ms) t ≡ false → before_closing s t ms ≡ ms
before_all s t ms h = open_all s t [] ms h

pub before-push : (s : GatherSetup) (t : ℕ) (ms : List Heard) (m : Heard) → is_shut s (timed s (ms ++ m ∷ [])) t ≡ true → before_closing s t (ms ++ m ∷ []) ≡ before_closing s t ms
before-push s t ms m k = grind (arith, common_steps, open_same, open_last, before_all)

-- ---- the closed epochs stay

abbrev pub Each : (ℕ → Bool) → List ℕ → Type 0
Each p ts = AllByRecursion (λ t. p t ≡ true) ts

pub each_front : (p : ℕ → Bool) (xs ys : List ℕ) → Each p (xs ++ ys) → Each p xs
each_front p [] ys h = tt
each_front p (x ∷ xs) ys h = (h.0, each_front p xs ys h.1)

pub each_back : (p : ℕ → Bool) (xs ys : List ℕ) → Each p (xs ++ ys) → Each p ys
each_back p [] ys h = h
each_back p (x ∷ xs) ys h = each_back p xs ys h.1

pub closed_at-push : (s : GatherSetup) (ms : List Heard) (m : Heard) (t : ℕ) → IsLater t (taken_at s (timed s ms) m) → is_shut s (timed s (ms ++ m ∷ [])) t ≡ true
    → closed_at s (ms ++ m ∷ []) t ≡ closed_at s ms t
closed_at-push s ms m t later shut = grind (arith, timed-push s ms m, epoch_at-push s (timed s ms) (next s (timed s ms) m) t later (times_before s (timed s ms) (next s (timed s ms) m) t (taken_follows s (timed s ms) m) later), before-push s t ms m shut)

pub list-push : (s : GatherSetup) (ms : List Heard) (m : Heard) (ts : List ℕ) → AllLater (taken_at s (timed s ms) m) ts → Each (is_shut s (timed s (ms ++ m ∷ []))) ts
    → closed_list_at s (ms ++ m ∷ []) ts ≡ closed_list_at s ms ts
list-push s ms m [] later shut = refl
list-push s ms m (t ∷ ts) later shut = ap₂ (λ a l. a ∷ l) (closed_at-push s ms m t later.0 shut.0) (list-push s ms m ts later.1 shut.1)

each-push : (s : GatherSetup) (ms : List Heard) (m : Heard) (ts : List ℕ) → Each (is_shut s (timed s ms)) ts → Each (is_shut s (timed s (ms ++ m ∷ []))) ts
each-push s ms m ts h = All-weaker (λ t. is_shut s (timed s ms) t ≡ true) (λ t. is_shut s (timed s (ms ++ m ∷ [])) t ≡ true) (λ t. shut-push s t ms m) ts h

pub epochs-push : (s : GatherSetup) (ms : List Heard) (m : Heard) → IsPrefix (closed_list s ms) (closed_list s (ms ++ m ∷ []))
epochs-push s ms m = grind (arith, map-append (closed_at s (ms ++ m ∷ [])) (closed_times s (timed s ms)) (grows_by s ms m).0, list-push s ms m (closed_times s (timed s ms)) (all_later s (timed s ms) (next s (timed s ms) m) (taken_follows s (timed s ms) m)) (each-push s ms m (closed_times s (timed s ms)) (kept_by_passes (is_shut s (timed s ms)) (times (timed s ms)))))

pub epochs-more : (s : GatherSetup) (ms more : List Heard) → IsPrefix (closed_list s ms) (closed_list s (ms ++ more))
epochs-more s ms [] = subst (λ l. IsPrefix (closed_list s ms) (closed_list s l)) (sym (append-nil ms)) (prefix_self (closed_list s ms))
epochs-more s ms (m ∷ more) = grind (arith, append_assoc, epochs-push s ms m, epochs-more s (ms ++ m ∷ []) more)

-- ---- with the pending epoch, these are all epochs

-- The time of the pending epoch.
abbrev pub pending_in : GatherSetup → List Timed → List ℕ
pending_in s xs = if is_pending s xs then option_to_list (greatest_time xs) else []

pub with_pending : (s : GatherSetup) (xs : List Timed) → closed_times s xs ++ pending_in s xs ≡ times xs
with_pending s xs = by (greatest_time xs) refl where
  by : (o : Option ℕ) → greatest_time xs ≡ o → closed_times s xs ++ pending_in s xs ≡ times xs
  by None e = cc (no_times xs e, e, no_times xs e)
  by (Some g) e =
      let last = ends xs g e in
      ap₂ (λ l (o : Option ℕ). l ++ (if option_map_or (λ t. not (is_closed s t xs)) o false then option_to_list o else [])) (closed_is s xs g last.init e last.is last.below) e
      ∙ (grind (arith, append-nil)) ∙ sym last.is

pub all-prefix : (s : GatherSetup) (ms : List Heard) → IsPrefix (closed_list s ms) (whole_list s ms)
all-prefix s ms =
    let xs = timed s ms in (
      closed_list_at s ms (pending_in s xs),
      ap (closed_list_at s ms) (sym (with_pending s xs)) ∙ map-append (closed_at s ms) (closed_times s xs) (pending_in s xs),
    )

-- ---- the pending epoch

pub pending_open : (s : GatherSetup) (xs : List Timed) (t : ℕ) → greatest_time xs ≡ Some t → is_pending s xs ≡ true → is_shut s xs t ≡ false
pending_open s xs t e p = grind (arith, common_steps)
