-- The letter of some systems; and which systems may be planned by it.
use Rattle.std.proofs.lemmas.Map.Views.{any-filter_same}
use Rattle.rinex_file.proofs.HeaderRows.Places.{number_known}
use Rattle.rinex_file.proofs.HeaderRows.Agree.{less_or}
use Rattle.rinex_file.proofs.HeaderRows.Texts.{equal_or}
use Rattle.rinex_file.proofs.Names.{filter_agree, is_system, system_of_letter, any_system, equal_indices, letter_back, system_same, systems_taken, list_any, le-leb, common_steps, AreUnread, Types, first_types, nat_le, arith, refl, sym, ap, ap₂, subst, ◌≡◌, ◌∙◌, ℕ, ◌+◌, ◌<◌, ◌≤◌, ◌==◌, ◌&&◌, ◌||◌, cond, Bool, true, List, [], ◌∷◌, length, nat_lt, nat_tests, lit<, filter, System, letter, PlanValue, planned_of, systems, is_planned, letter_of, flagged_letter, systems_letter, Known, IsShown, Shown, Has, counted, is_chosen, fits, same_Some, if◌then◌else◌, index_of, take, filter-append, ◌++◌, filter_passes, eq-eqb, lt-ltb, or_right}

-- ---- letters

pub one_letter : (s t : System) → letter s ≡ letter t → s ≡ t
one_letter s t e = same_Some s t (sym (letter_back s) ∙ ap system_of_letter e ∙ letter_back t)

-- ---- the letter of a list

-- of the systems before an index, with the one at it
pub letter_next : (f : System → Bool) (n : ℕ) (s : System) → index_of s ≡ n
    → letter_of (filter f (take (n + 1) systems)) ≡ (if f s then (if letter_of (filter f (take n systems)) == 0 then letter s else 77) else letter_of (filter f (take n systems)))
letter_next f n s at = ap (λ ss. letter_of (filter f ss)) (systems_taken n s at) ∙ ap letter_of (filter-append f (take n systems) (s ∷ [])) ∙ by (f s) where
  by : (b : Bool) → letter_of (filter f (take n systems) ++ cond b (s ∷ []) []) ≡ (if b then (if letter_of (filter f (take n systems)) == 0 then letter s else 77) else letter_of (filter f (take n systems)))
  by b = grind (arith, common_steps)

-- ---- flags

pub same_flags : (f g : System → Bool) → ((s : System) → f s ≡ g s) → flagged_letter f ≡ flagged_letter g
same_flags f g same = ap letter_of (filter_agree f g same systems)

-- some system has a flag
pub flagged : (f : System → Bool) → 0 < flagged_letter f → (s : System) × (f s ≡ true)
flagged f h1 = grind (arith, common_steps, filter_passes)

-- a system with a flag is one of those with a flag
has_flag : (f : System → Bool) (s : System) → f s ≡ true → list_any (is_system s) (filter f systems) ≡ true
has_flag f s e = any-filter_same (is_system s) f true (λ t h. subst (λ r. f r ≡ true) (system_same s t h) e) systems ∙ any_system s

-- a letter other than `M` is that of each system with a flag
own_letter : (f : System → Bool) (m : ℕ) → (m ≡ 77 → ⊥) → flagged_letter f ≡ m → (s : System) → f s ≡ true → letter s ≡ m
own_letter f m far is s e = grind (arith, has_flag, equal_indices)

several_from : (ss : List System) → 2 ≤ length ss → letter_of ss ≡ 77
several_from ss l = grind arith

more_flags : (f g : System → Bool) → ((s : System) → f s ≡ true → g s ≡ true) → (ss : List System) → length (filter f ss) ≤ length (filter g ss)
more_flags f g le [] = omega arith
more_flags f g le (s ∷ ss) = grind (arith, (more_flags f g le ss))

-- ---- which systems may be planned

-- a system with signals, or one that may have some and whose letter it is
abbrev chosen_by : ℕ → (System → Bool) → (System → Bool) → System → Bool
chosen_by m some may s = some s || (may s && (m == 77 || m == letter s))

-- of one system the letter is its own, so no other is chosen; of several all are that may be
chosen_letter : (f some may : System → Bool) (m : ℕ) → flagged_letter f ≡ m → 0 < m → ((s : System) → some s ≡ true → f s ≡ true) → ((s : System) → f s ≡ true → (may s || some s) ≡ true)
    → flagged_letter (chosen_by m some may) ≡ m
chosen_letter f some may m is positive sub sup = equal_or (flagged_letter (chosen_by m some may) ≡ m) m 77 several one where
  several : m ≡ 77 → flagged_letter (chosen_by m some may) ≡ m
  several h1 = grind (arith, common_steps, more_flags, several_from)

  one : (m ≡ 77 → ⊥) → flagged_letter (chosen_by m some may) ≡ m
  one far = same_flags (chosen_by m some may) f (λ s. by (f s) (some s) (may s) (m == 77 || m == letter s) (sub s) (sup s) (λ h. here s (own_letter f m far is s h)) (λ h. again s h)) ∙ is where
    here : (s : System) → letter s ≡ m → (m == 77 || m == letter s) ≡ true
    here s e = grind (arith, nat_tests, e)

    again : (s : System) → (m == 77 || m == letter s) ≡ true → f s ≡ true
    again s h1 = grind (arith, common_steps, one_letter, own_letter)

    by : (a c b e : Bool) → (c ≡ true → a ≡ true) → (a ≡ true → (b || c) ≡ true) → (a ≡ true → e ≡ true) → (e ≡ true → a ≡ true) → (c || (b && e)) ≡ a
    by a c b e h1 h2 h3 h4 = grind (arith, common_steps)

-- ---- a header with what was read has a plan that fits

counted_flag : (n first count : ℕ) (all : List ℕ) → (n ≤ first → count ≡ 0) → (first < n → count ≡ length all) → nat_lt 0 count ≡ true → nat_lt 0 (length all) ≡ true
counted_flag n first count all none are some = less_or (nat_lt 0 (length all) ≡ true) first n (λ l. ap (nat_lt 0) (sym (are l)) ∙ some) (λ m. let no = sym (ap (nat_lt 0) (none m)) ∙ some in cc)

planned_flag : (n first count : ℕ) (all : List ℕ) → (first < n → count ≡ length all) → nat_lt 0 (length all) ≡ true → (nat_le n first || nat_lt 0 count) ≡ true
planned_flag n first count all are some = less_or ((nat_le n first || nat_lt 0 count) ≡ true) first n (λ l. or_right (nat_le n first) (nat_lt 0 count) (ap (nat_lt 0) (are l) ∙ some)) (λ m. ap (λ b. b || nat_lt 0 count) (le-leb n first m))

some_planned : (p : PlanValue) (s : System) → 0 < length (planned_of s p) → 0 < systems_letter p
some_planned p s some = grind (arith, has_flag, lt-ltb, lit<)

pub has_fits : (k : Known) (n : ℕ) (h : Shown) → 0 < n → AreUnread k n → IsShown h → Has k n h → fits k n ≡ true
has_fits k n h first unread is has =
    let letter : systems_letter h.plan ≡ k.letter = has.rows 0 first in
    let positive = subst (λ m. 0 < m) letter (some_planned h.plan is.plan.some.0 is.plan.some.1) in
    let chosen = chosen_letter (is_planned h.plan) (λ s. nat_lt 0 (counted k s)) (λ s. nat_le n (first_types s)) k.letter letter positive
    (λ s e. counted_flag n (first_types s) (counted k s) (planned_of s h.plan) (λ m. (unread (Types s 0) (omega (arith, m))).1 refl) (number_known has s) e)
    (λ s e. planned_flag n (first_types s) (counted k s) (planned_of s h.plan) (number_known has s) e) in
    ap₂ (λ a b. a && b) (eq-eqb (flagged_letter (is_chosen k n)) k.letter chosen) (lt-ltb 0 k.letter positive)
