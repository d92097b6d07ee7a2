-- The epoch that a step closes is the one that the longer list closes.
use Rattle.obs_epoch.proofs.Names.{◌≡◌, ℕ, Bool, true, false, not, ◌&&◌, List, [], ◌∷◌, ◌++◌, refl, sym, ap, ap₂, ◌∙◌, arith, Option, Some, None, nat_lt, append-nil, if◌then◌else◌, option_to_list, Kind, CellCounts, GatherSetup, Heard, ends_epoch, is_own, Timed, greatest_time, is_closed, taken_at, State, is_pending, closes_first, no_counts, is_close_first, is_accepted, kind_after, closed_times, closed_so_far, option_map_or, closed_of, closed_time, common_steps}
use Rattle.obs_epoch.proofs.TimesLemmas.{next}
use Rattle.obs_epoch.proofs.ClockLemmas.{standing, takes, same_time, Follows, first, greater, equal, new_time}
use Rattle.obs_epoch.proofs.ClosedLemmas.{when, taken_follows, closed-push_none, closed-push_greater, closed-push_same, closed-push_first, times-push_none, no_times}

either : (m c : Bool) (g : ℕ) → when (not c && m) g ≡ option_to_list (if m && not c then Some g else None)
either m c g = grind (arith, common_steps)

neither : (m : Bool) (g : Option ℕ) → [] ≡ option_to_list (if m && false then g else None)
neither m g = grind (arith, common_steps)

-- A message that isn't accepted closes the pending epoch exactly if it ends its epoch.
pub untaken : (s : GatherSetup) (xs : List Timed) (x : Timed) → x.time ≡ None
    → closed_times s (xs ++ x ∷ []) ≡ closed_times s xs ++ option_to_list (if ends_epoch s x.message && is_pending s xs then greatest_time xs else None)
untaken s xs x none = by (greatest_time xs) refl where
  by : (g : Option ℕ) → greatest_time xs ≡ g
      → closed_times s (xs ++ x ∷ []) ≡ closed_times s xs ++ option_to_list (if ends_epoch s x.message && option_map_or (λ t. not (is_closed s t xs)) g false then g else None)
  by None e = grind (arith, common_steps, times-push_none, no_times, append-nil) ∙ ap (λ l. closed_times s xs ++ l) (neither (ends_epoch s x.message) None)
  by (Some g) e = closed-push_none s xs x g none e ∙ ap (λ l. closed_times s xs ++ l) (either (ends_epoch s x.message) (is_closed s g xs) g)

plain : (s : GatherSetup) (ys : List Timed) → closed_so_far s ys false ≡ closed_times s ys
plain s ys = append-nil (closed_times s ys)

-- If a message is accepted, an epoch is closed first exactly if one is pending and its time is less.
pub first_is : (s : GatherSetup) (xs : List Timed) (m : Heard) (u t : ℕ) → is_own s m ≡ true → taken_at s xs m ≡ Some u → greatest_time xs ≡ Some t
    → closes_first s xs m ≡ (not (is_closed s t xs) && nat_lt t u)
first_is s xs m u t own some e = grind (arith, common_steps)

pub not_less : (c shut : Bool) (u : ℕ) → (not c && nat_lt u u) ≡ shut → shut ≡ false
not_less c shut u h = grind (arith, h)

pub own_of : (s : GatherSetup) (xs : List Timed) (m : Heard) (u : ℕ) → taken_at s xs m ≡ Some u → is_own s m ≡ true
own_of s xs m u some = grind (arith, common_steps)

-- An accepted message: whether it closes the epoch before, and its own.
pub taken_by : {s : GatherSetup} {xs : List Timed} (m : Heard) {u : ℕ} → is_own s m ≡ true → taken_at s xs m ≡ Some u → Follows s xs u
    → (shut : Bool) → closes_first s xs m ≡ shut
    → closed_times s (xs ++ next s xs m ∷ []) ≡ closed_so_far s xs shut ++ when (ends_epoch s m) u
taken_by {s} {xs} m {u} own some (first e) shut h = grind (arith, closed-push_first, plain, closed-push_first s xs (next s xs m) u some e, plain s xs)
taken_by {s} {xs} m {u} own some (equal e c) shut h =
    let open_still : shut ≡ false = not_less (is_closed s u xs) shut u (sym (first_is s xs m u u own some e) ∙ h) in
    closed-push_same s xs (next s xs m) u some e c ∙ ap (λ l. l ++ when (ends_epoch s m) u) (sym (plain s xs) ∙ ap (closed_so_far s xs) (sym open_still))
taken_by {s} {xs} m {u} own some (greater t e lt) shut h = grind (arith, closed-push_greater s xs (next s xs m) t u some e lt)

-- The epoch that a step closes, defined by the list.
abbrev closed_in : GatherSetup → List Timed → Heard → Bool → Option ℕ
closed_in s xs m shut = closed_of (kind_after s xs no_counts m) (ends_epoch s m) (is_pending s xs && not shut) (greatest_time xs) (greatest_time (xs ++ next s xs m ∷ []))

closed_in_is : (s : GatherSetup) (xs : List Timed) (m : Heard) (shut : Bool) → closes_first s xs m ≡ shut → closed_time (standing s xs shut) m ≡ closed_in s xs m shut
closed_in_is s xs m shut h = ap₂ (λ k (g : State). closed_of k (ends_epoch s m) (is_pending s xs && not shut) (greatest_time xs) g.latest) (takes s xs no_counts m shut h).0 (takes s xs no_counts m shut h).1

-- The outcome of a message that isn't accepted, and of one that is.
pub refused : (s : GatherSetup) (xs : List Timed) (n : CellCounts) (m : Heard) → taken_at s xs m ≡ None
    → (is_close_first (kind_after s xs n m) ≡ false) × (is_accepted (kind_after s xs n m) ≡ false)
refused s xs n m none = grind (arith, common_steps)

pub accepted : (s : GatherSetup) (xs : List Timed) (n : CellCounts) (m : Heard) (u : ℕ) → taken_at s xs m ≡ Some u
    → (is_close_first (kind_after s xs n m) ≡ false) × (is_accepted (kind_after s xs n m) ≡ true)
accepted s xs n m u some = grind (arith, common_steps)

closing_none : (s : GatherSetup) (xs : List Timed) (m : Heard) (shut : Bool) → taken_at s xs m ≡ None → closes_first s xs m ≡ shut
    → closed_so_far s (xs ++ next s xs m ∷ []) false ≡ closed_so_far s xs shut ++ option_to_list (closed_in s xs m shut)
closing_none s xs m shut none h =
    plain s (xs ++ next s xs m ∷ []) ∙ untaken s xs (next s xs m) none
    ∙ ap₂ (λ l o. l ++ option_to_list o) (sym (plain s xs) ∙ ap (closed_so_far s xs) (sym open_still)) closed where
      open_still : shut ≡ false
      open_still = grind (arith, none, h)

      by : (k : Kind) (ends p : Bool) {sh : Bool} (before : Option ℕ) {after : Option ℕ} → is_close_first k ≡ false → is_accepted k ≡ false → sh ≡ false → after ≡ before
          → (if ends && p then before else None) ≡ closed_of k ends (p && not sh) before after
      by k ends p before other untaken still same = grind (arith, common_steps)

      closed : (if ends_epoch s m && is_pending s xs then greatest_time xs else None) ≡ closed_in s xs m shut
      closed =
          let kind = refused s xs no_counts m none in
          by (kind_after s xs no_counts m) (ends_epoch s m) (is_pending s xs) (greatest_time xs) kind.0 kind.1 open_still (same_time s xs (next s xs m) none).0

closing_some : (s : GatherSetup) (xs : List Timed) (m : Heard) (u : ℕ) (shut : Bool) → taken_at s xs m ≡ Some u → closes_first s xs m ≡ shut
    → closed_so_far s (xs ++ next s xs m ∷ []) false ≡ closed_so_far s xs shut ++ option_to_list (closed_in s xs m shut)
closing_some s xs m u shut some h = grind (arith, new_time s xs (next s xs m) u some (taken_follows s xs m u some), plain s (xs ++ next s xs m ∷ []), taken_by m (own_of s xs m u some) some (taken_follows s xs m u some) shut h)

pub closing : (s : GatherSetup) (xs : List Timed) (m : Heard) (shut : Bool) → closes_first s xs m ≡ shut
    → closed_so_far s (xs ++ next s xs m ∷ []) false ≡ closed_so_far s xs shut ++ option_to_list (closed_time (standing s xs shut) m)
closing s xs m shut h = by (taken_at s xs m) refl ∙ ap (λ o. closed_so_far s xs shut ++ option_to_list o) (sym (closed_in_is s xs m shut h)) where
  by : (time : Option ℕ) → taken_at s xs m ≡ time
      → closed_so_far s (xs ++ next s xs m ∷ []) false ≡ closed_so_far s xs shut ++ option_to_list (closed_in s xs m shut)
  by None none = closing_none s xs m shut none h
  by (Some u) some = closing_some s xs m u shut some h
