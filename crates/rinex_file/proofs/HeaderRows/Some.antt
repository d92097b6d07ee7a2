-- Some header has what was read.
use Rattle.rinex_file.proofs.HeaderRows.Letters.{flagged, same_flags}
use Rattle.rinex_file.proofs.HeaderRows.Texts.{equal_or}
use Rattle.rinex_file.proofs.HeaderRows.Slots.{More, more_slots, no_channels_are, same_channels}
use Rattle.rinex_file.proofs.HeaderRows.Places.{place_at}
use Rattle.rinex_file.proofs.PlainTexts.{both}
use Rattle.rinex_file.proofs.Names.{value_tabulated, tabulate, Glonass, common_steps, not, nat_le, first_types, slots_begun, IsRowRead, take_at, Types, All, All-cons, All-nil, All-push, Bool, Has, HasRow, HeaderRow, IsDistinct, IsDistinct-push, IsHeadAt, IsShown, Known, List, PlanValue, System, ap, arith, counted, eqb, false, flagged_letter, is_chosen, is_equal, is_less, is_planned, le-length_from_below, length, length-append, letter, list_any, min, nat_eq, nat_eq_equiv, nat_lt, nat_tests, nil_from_length, planned_of, refl, row_at, shown_with, signals_begun, subst, suc, sym, systems_letter, table, take, take-append_seam, take-take, take_all, true, zero, ◌&&◌, ◌++◌, ◌+◌, ◌-◌, ◌<◌, ◌==◌, ◌||◌, ◌∙◌, ◌∷◌, ◌≡◌, ◌≤◌, [], ℕ, lit<, Slots, SlotNumber, known_slots, slots_of, no_channels, lt-ltb, or_right}

-- ---- signals of a system, with others up to a number

-- a number below n that isn't in a list
record Fresh (n : ℕ) (xs : List ℕ) : Type 0 where
  i : ℕ
  below : i < n
  isnt : list_any (eqb i) xs ≡ false

-- there is one, unless the list has them all
fresh_unless : (n : ℕ) (xs : List ℕ) → (((i : ℕ) → i < n → list_any (eqb i) xs ≡ true) → ⊥) → Fresh n xs
fresh_unless zero xs some = absurd (some (λ i less. absurd (omega (arith, less))))
fresh_unless (suc n) xs some = by (list_any (eqb n) xs) refl (fresh_unless n xs) where
  by : (t : Bool) → list_any (eqb n) xs ≡ t → ((((i : ℕ) → i < n → list_any (eqb i) xs ≡ true) → ⊥) → Fresh n xs) → Fresh (suc n) xs
  by false e rest = record { i = n; below = omega arith; isnt = e }
  by true e rest = grind (arith, common_steps, equal_or)

fresh : (n : ℕ) (xs : List ℕ) → length xs < n → Fresh n xs
fresh n xs few = fresh_unless n xs (λ all. let many = le-length_from_below xs n all in omega (arith, few, many))

abbrev AreBelow : ℕ → List ℕ → Type 0
AreBelow n xs = All (λ i. i < n) xs

-- a list of c numbers below n that begins with these
record Completed (n c : ℕ) (xs : List ℕ) : Type 0 where
  all : List ℕ
  size : length all ≡ c
  below : AreBelow n all
  apart : IsDistinct nat_eq all
  begins : xs ≡ take (length xs) all

in_front : (xs all : List ℕ) (i : ℕ) → xs ++ i ∷ [] ≡ take (length (xs ++ i ∷ [])) all → xs ≡ take (length xs) all
in_front xs all i e = sym (take-append_seam xs (i ∷ [])) ∙ ap (take (length xs)) e ∙ take-take (length xs) (length (xs ++ i ∷ [])) all (omega (arith, length-append xs (i ∷ [])))

complete : (d n c : ℕ) (xs : List ℕ) → AreBelow n xs → IsDistinct nat_eq xs → length xs + d ≡ c → c ≤ n → Completed n c xs
complete zero n c xs below apart whole room = record { all = xs; size = omega (arith, whole); below = below; apart = apart; begins = sym (take_all (length xs) xs (omega arith)) }
complete (suc d) n c xs below apart whole room =
    let one = fresh n xs (omega (arith, whole, room)) in
    let longer : length (xs ++ one.i ∷ []) ≡ length xs + 1 = length-append xs (one.i ∷ []) in
    let rest = complete d n c (xs ++ one.i ∷ []) (All-push (λ i. i < n) xs one.i below one.below) (IsDistinct-push nat_eq_equiv xs one.i apart one.isnt) (omega (arith, whole, longer)) room in
    record { all = rest.all; size = rest.size; below = rest.below; apart = rest.apart; begins = in_front xs rest.all one.i rest.begins }

-- signals of a system, with others up to their number, if that is known
record Choice (s : System) (known : Bool) (count : ℕ) (signals : List ℕ) (chosen : Bool) : Type 0 where
  all : List ℕ
  below : AreBelow (length (table s)) all
  apart : IsDistinct nat_eq all
  some : nat_lt 0 (length all) ≡ chosen
  number : known ≡ true → count ≡ length all
  begins : signals ≡ take (length signals) all

choose : (s : System) (chosen known : Bool) (count : ℕ) (signals : List ℕ) → AreBelow (length (table s)) signals → IsDistinct nat_eq signals → length signals ≤ count → count ≤ length (table s)
    → (known ≡ false → count ≡ 0) → (chosen ≡ true → (not known || nat_lt 0 count) ≡ true) → (count == 0 || chosen) ≡ true → Choice s known count signals chosen
unfolding IsDistinct
choose s false known count signals below apart read few unread may none = grind (arith, common_steps, All-nil, nil_from_length, take_all, nat_tests)
choose s true false count signals below apart read few unread may none = record {
  all = 0 ∷ [];
  below = All-cons (λ i. i < length (table s)) 0 [] (grind arith) (All-nil (λ i. i < length (table s)));
  apart = (tt, tt);
  some = refl;
  number = λ l. cc;
  begins = let empty : signals ≡ [] = let zero_count = unread refl in nil_from_length signals (omega (arith, read, zero_count)) in empty ∙ sym (ap (λ n. take n (0 ∷ [])) (ap length empty));
}
choose s true true count signals below apart read few unread may none =
    let some : 0 < count = is_less 0 count (may refl) in
    let made = complete (count - length signals) (length (table s)) count signals below apart (omega (arith, read)) few in
    grind (arith, common_steps, made, lt-ltb)

-- the first items are those that were read, if these are all or enough
same_begun : {X : Type 0} (n : ℕ) (read all : List X) → read ≡ take (length read) all → min n (length all) ≤ length read → take n all ≡ take n read
same_begun n read all begins enough = grind (arith, common_steps, take-take)

-- ---- some header has what was read

pub record SomeShown (k : Known) (n : ℕ) : Type 0 where
  pub p : PlanValue
  pub is : IsShown (shown_with k p)
  pub has : Has k n (shown_with k p)

module _ (k : Known) (n : ℕ) (at : IsHeadAt k n) (p : PlanValue) (letter_is : 0 < n → systems_letter p ≡ k.letter) (more : List SlotNumber) (slots : slots_of p.channels ≡ known_slots k ++ more) (size : length more ≡ k.slots - length (known_slots k))
    (number : (s : System) → first_types s < n → counted k s ≡ length (planned_of s p)) (begins : (s : System) → planned_of s k.shown.plan ≡ take (length (planned_of s k.shown.plan)) (planned_of s p)) where
  slots_number : k.slots ≡ length (slots_of p.channels)
  slots_number = let read = at.lists.slots_read in omega (arith, size, read, ap length slots, length-append (known_slots k) more)

  own_row : (i : ℕ) → i < n → (r : HeaderRow) → row_at i ≡ r → HasRow k (shown_with k p) r
  own_row i less (Slots row) here =
      let read : IsRowRead k (Slots row) = subst (IsRowRead k) here (at.read i less) in
      record { number = slots_number; same = same_begun (slots_begun (suc row)) (known_slots k) (slots_of p.channels) (sym (take_at (known_slots k) more (length (known_slots k)) refl) ∙ ap (take (length (known_slots k))) (sym slots)) (subst (λ c. min (slots_begun (suc row)) c ≤ length (known_slots k)) slots_number read) }
  own_row i less (Types s row) here =
      let read : IsRowRead k (Types s row) = subst (IsRowRead k) here (at.read i less) in
      let place = place_at i (Types s row) (let few = at.expected in omega (arith, less, few)) here in
      let same = number s (omega (arith, place, less)) in
      record { number = same; same = same_begun (signals_begun (suc row)) (planned_of s k.shown.plan) (planned_of s p) (begins s) (subst (λ c. min (signals_begun (suc row)) c ≤ length (planned_of s k.shown.plan)) same read) }
  own_row i less other here = grind (arith, common_steps, letter_is)

module _ (k : Known) (n : ℕ) (at : IsHeadAt k n) (flags : System → Bool) (same : 0 < n → flagged_letter flags ≡ k.letter) (some : 0 < flagged_letter flags)
    (may : (s : System) → flags s ≡ true → (nat_le n (first_types s) || nat_lt 0 (counted k s)) ≡ true) (none : (s : System) → (counted k s == 0 || flags s) ≡ true) where
  choice : (s : System) → Choice s (not (nat_le n (first_types s))) (counted k s) (planned_of s k.shown.plan) (flags s)
  choice s = choose s (flags s) (not (nat_le n (first_types s))) (counted k s) (planned_of s k.shown.plan) (at.valid.listed s) (at.valid.apart s) (at.lists.read s) (at.lists.few s)
      (λ e. let low = is_early n (first_types s) e in (at.unread (Types s 0) (omega (arith, low))).1 refl)
      (λ e. twice (nat_le n (first_types s)) (nat_lt 0 (counted k s)) (may s e)) (none s) where
        is_early : (a b : ℕ) → not (nat_le a b) ≡ false → a ≤ b
        is_early a b e = grind (arith, e)

        twice : (a b : Bool) → (a || b) ≡ true → (not (not a) || b) ≡ true
        twice a b e = grind arith

  abbrev all : System → List ℕ
  all s = (choice s).all

  more : More k.shown.plan.channels (k.slots - length (known_slots k))
  more = let room = at.lists.room in let read = at.lists.slots_read in more_slots (k.slots - length (known_slots k)) k.shown.plan.channels at.valid.channels (omega (arith, room, read))

  abbrev p : PlanValue
  p = record { signals = tabulate all; channels = more.channels }

  -- without a signal of GLONASS no slot has a channel
  unplanned : planned_of Glonass p ≡ [] → more.channels ≡ no_channels
  unplanned e = grind (arith, choice, value_tabulated, length-append, same_channels, no_channels_are, nil_from_length, nat_tests)

  letter_is : systems_letter p ≡ flagged_letter flags
  letter_is = same_flags (is_planned p) flags (λ s. ap (λ xs. nat_lt 0 (length xs)) (value_tabulated s all) ∙ (choice s).some)

  made : SomeShown k n
  made = record {
    p = p;
    is = record {
      texts = at.valid.texts;
      interval = at.valid.interval;
      values = at.valid.values;
      first = at.valid.first;
      plan = record {
        listed = λ s. subst (AreBelow (length (table s))) (sym (value_tabulated s all)) (choice s).below;
        apart = λ s. subst (IsDistinct nat_eq) (sym (value_tabulated s all)) (choice s).apart;
        some = let (s, flag) = flagged (is_planned p) (subst (λ m. 0 < m) (sym letter_is) some) in (s, is_less 0 (length (planned_of s p)) flag);
        channels = more.are;
        unplanned = unplanned;
      };
    };
    has = record {
      rows = λ i l. own_row k n at p (λ l. letter_is ∙ same l) more.more more.is more.size (λ s less. (choice s).number (is_late n (first_types s) less) ∙ ap length (sym (value_tabulated s all)))
          (λ s. (choice s).begins ∙ ap (take (length (planned_of s k.shown.plan))) (sym (value_tabulated s all))) i l (row_at i) refl;
    };
  } where
    is_late : (a b : ℕ) → b < a → not (nat_le a b) ≡ true
    is_late a b e = grind (arith, e)

from_zero : (a : ℕ) (b : Bool) → (nat_le 0 a || b) ≡ true
from_zero a b = grind arith

pub some_shown : (k : Known) (n : ℕ) → IsHeadAt k n → SomeShown k n
some_shown k zero at = made k 0 at (λ s. true) (λ l. absurd (omega (arith, l))) (lit< tt) (λ s e. from_zero (first_types s) (nat_lt 0 (counted k s))) (λ s. or_right (counted k s == 0) true refl)
some_shown k (suc n) at =
    let fit = both (flagged_letter (is_chosen k (suc n)) == k.letter) (nat_lt 0 k.letter) (at.fitting (omega arith)) in
    let same = is_equal (flagged_letter (is_chosen k (suc n))) k.letter fit.0 in
    made k (suc n) at (is_chosen k (suc n)) (λ l. same) (subst (λ m. 0 < m) (sym same) (is_less 0 k.letter fit.1))
    (λ s e. may (nat_lt 0 (counted k s)) (nat_le (suc n) (first_types s)) (k.letter == 77 || k.letter == letter s) e) (λ s. grind (arith, nat_tests)) where
      may : (a b c : Bool) → (a || (b && c)) ≡ true → (b || a) ≡ true
      may a b c e = grind (arith, e)
