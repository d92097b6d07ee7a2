-- Numbers, dates and lengths that are read from text, and lengths that were written.
use Rattle.line_texts.proofs.Names.{and_from, and_parts, le-leb, le-ltb, lt-ltb, inl, inr, ◌↔◌, IsNumeral, digits_value, signed_digits_value, without_leading_sign, decimal_is_IsNumeral, ParsesUnsigned, IsCivilOf, week, weeks, Civil, IsHourOf, IsTimeAt, IsWeekNumber, IsWeekOf, civil_in, nat_tests, common_steps, list_all, result_ok, is_digit, digits_from, digits_in, next_digit, number_of as digits_number, number_of, MatchOption, IsNumeralModel, numerals_by_fold, parse_plain, digits_value_short, position_or_len, position_or_len_is, get_or_append_left, get_or_at, take_at, drop_at, length_push, decimal_nonempty, digits_decimal, digits_value-decimal, length-decimal-le, list_all-append, AllPass-from_list_all, after_byte, cut, decimals_of, fixed_point, length_below, four_digits, size_text, ◌≡◌, ◌≢◌, ◌∙◌, ◌≤◌, ◌<◌, ◌+◌, ◌*◌, ◌/◌, ◌%◌, ◌^◌, ◌==◌, ◌++◌, ℕ, pos, true, false, not, List, [], ◌∷◌, Option, Some, None, Result, Ok, Err, IfSome, Bor, length, length-append, get_or, drop, decimal, codes, append_assoc, arith, rules, refl, sym, ap, subst, lit≤}

-- ---- numbers of digits alone

pub own : IsNumeralModel (λ text. list_all is_digit text ≡ true) digits_in
own = numerals_by_fold _ (search rules) digits_from (search rules)

pub number_read : (most : ℕ) (text : List ℕ) → 1 ≤ length text → length text ≤ most → list_all is_digit text ≡ true → digits_number most text ≡ Some (digits_in text)
number_read most text some few all = rw (le-leb 1 (length text) some, le-leb (length text) most few, all) refl

-- a number that was written
pub decimal_read : (most n : ℕ) → 0 < most → n < 10 ^ most → n < 2 ^ 64 → digits_number most (decimal n) ≡ Some n
decimal_read most n some small fits = grind (arith, number_read, decimal_nonempty, length-decimal-le, digits_decimal, own, digits_value-decimal)

-- a text that is empty, too long, or has another character
pub number_missing : (most : ℕ) (text : List ℕ) → (list_all is_digit text ≡ true → 1 ≤ length text → length text ≤ most → ⊥) → digits_number most text ≡ None
number_missing most text none = grind (arith, nat_tests)

-- a text without a leading plus sign that was parsed
pub number_parsed : {E : Type 0} (most : ℕ) (text : List ℕ) (r : Result ℕ E) → most ≤ 8 → length text ≤ most → (get_or text 0 0 ≢ 43) → ParsesUnsigned 64 10 text r
    → (result_ok r ≡ digits_number most text) × IfSome (result_ok r) (λ n. n < 10 ^ most)
number_parsed {E} most text (Ok n) small few plain h = grind (arith, common_steps, parse_plain, own, number_read, digits_value_short)
number_parsed {E} most text (Err e) small few plain h =
    (sym (number_missing most text (λ all some _. parse_plain own {E = E} 64 text (Err e) h plain (all, some, omega (arith, digits_value_short own text 8 all (omega arith))))), tt)

-- a text without a minus sign, by the clause of `strip_prefix`
pub no_sign : (text : List ℕ) (r : Option (Bor (List ℕ))) → MatchOption r ((rest : List ℕ) → text ≢ 45 ∷ rest) (λ x. text ≡ 45 ∷ x.now) → r ≡ None → after_byte 45 text ≡ None
no_sign text r h is = grind (arith, nat_tests)

-- ---- dates

-- a date and time of day without a time
pub no_time : {at : Option Civil} (c : Civil) → at ≡ Some c → ((t : ℕ) → t < weeks * week → IsCivilOf t c → ⊥) → (t : ℕ) → IsTimeAt at t → ⊥
no_time c is none t h = grind arith

-- ---- digits

four_are_digits : (n : ℕ) → list_all is_digit (four_digits n) ≡ true
four_are_digits n = grind (arith, nat_tests)

next_of : (n d : ℕ) → d < 10 → next_digit n (48 + d) ≡ n * 10 + d
next_of n d h = grind (arith, nat_tests)

four_read : (n : ℕ) → digits_in (four_digits n) ≡ n % 10000
four_read n = rw (next_of 0 (n / 1000 % 10) (omega arith), next_of _ (n / 100 % 10) (omega arith), next_of _ (n / 10 % 10) (omega arith), next_of _ (n % 10) (omega arith)) (omega arith)

-- another byte isn't among digits
pub no_byte : (c : ℕ) (ds : List ℕ) → is_digit c ≡ false → list_all is_digit ds ≡ true → list_all (λ x. not (x == c)) ds ≡ true
no_byte c [] other h = refl
no_byte c (x ∷ xs) other h = and_from (not (x == c)) _ (grind (arith, nat_tests)) (no_byte c xs other (and_parts (is_digit x) (list_all is_digit xs) h).1)

-- ---- weeks

unsigned : (ds : List ℕ) → list_all is_digit ds ≡ true → (without_leading_sign ds ≡ ds) × (signed_digits_value 10 ds ≡ pos (digits_value 10 ds))
unsigned ds h = grind (arith, nat_tests)

-- none of the bytes is this one
none_at : (c : ℕ) (ds : List ℕ) → c < 48 → list_all is_digit ds ≡ true → position_or_len (λ x. x == c) ds ≡ length ds
none_at c [] low h = refl
none_at c (x ∷ xs) low h = grind (arith, nat_tests, and_parts, none_at c xs low (and_parts (is_digit x) (list_all is_digit xs) h).1)

uncut : (c : ℕ) (ds : List ℕ) → c < 48 → list_all is_digit ds ≡ true → cut c ds ≡ None
uncut c ds low h = rw (none_at c ds low h, le-ltb (length ds) (length ds) (omega arith)) refl

-- a number isn't a date
no_date : (ds : List ℕ) (t : ℕ) → list_all is_digit ds ≡ true → IsHourOf 0 ds t → ⊥
no_date ds t all h = let none : civil_in 0 ds ≡ None = rw (uncut 45 ds (omega arith) all) refl in let bad = sym h.1 ∙ none in cc

pub week_read : (n m : ℕ) → n < weeks → IsWeekOf (decimal n) m ↔ (m ≡ n)
week_read n m small = (λ h. elim h [ inl number ↦ is number | inr date ↦ absurd (no_date (decimal n) date.0 all date.1) ], λ e. inl (rw e read))
  where
    fits : n < 2 ^ 64
    fits = omega (arith, small)

    all : list_all is_digit (decimal n) ≡ true
    all = digits_decimal own n fits

    numeral : IsNumeral 10 (decimal n) × (digits_value 10 (decimal n) ≡ n)
    numeral = decimal_is_IsNumeral n fits

    value : signed_digits_value 10 (decimal n) ≡ pos n
    value = (unsigned (decimal n) all).1 ∙ ap pos numeral.1

    read : IsWeekNumber (decimal n) n
    read = (subst (IsNumeral 10) (sym (unsigned (decimal n) all).0) numeral.0, value, small)

    is : IsWeekNumber (decimal n) m → m ≡ n
    is h = let e : pos m ≡ pos n = sym h.1 ∙ value in cc

-- ---- separators

pub cut_first : (c : ℕ) (a b : List ℕ) → list_all (λ x. not (x == c)) a ≡ true → cut c (a ++ c ∷ b) ≡ Some (a, b)
cut_first c a b h = rw (place, lt-ltb (length a) (length (a ++ c ∷ b)) (omega (arith, length-append a (c ∷ b))), take_at a (c ∷ b) (length a) refl, after) refl
  where
    same : (c == c) ≡ true
    same = grind (arith, nat_tests)

    place : position_or_len (λ x. x == c) (a ++ c ∷ b) ≡ length a
    place =
        position_or_len_is (λ x. x == c) (a ++ c ∷ b) (length a) 0 (grind (arith, common_steps))
        (λ i less. let other = AllPass-from_list_all (λ x. not (x == c)) a h i 0 less in rw get_or_append_left (grind (arith, nat_tests)))
        (λ _. rw (get_or_at a c b 0 (length a) refl) same)

    after : drop (length a + 1) (a ++ c ∷ b) ≡ b
    after = ap (drop (length a + 1)) (sym (append_assoc a (c ∷ []) b)) ∙ drop_at (a ++ c ∷ []) b (length a + 1) (length_push a c)

no_minus : (ds rest : List ℕ) → 0 < length ds → list_all is_digit ds ≡ true → after_byte 45 (ds ++ rest) ≡ None
no_minus [] rest some h = absurd (omega (arith, some))
no_minus (x ∷ xs) rest some h = let other : (x == 45) ≡ false = grind (arith, nat_tests) in rw other refl

-- ---- lengths

size_shape : (n : ℕ) → size_text n ≡ decimal (n / 10000) ++ 0x2E ∷ four_digits n
size_shape n = append_assoc (decimal (n / 10000)) (codes ".") (four_digits n)

times_one : (n p : ℕ) → p ≡ 1 → n * p ≡ n
times_one n p e = ap (λ (k : ℕ). n * k) e ∙ omega arith

joined : (n : ℕ) → n / 10000 * 10000 + n % 10000 ≡ n
joined n = omega arith

module _ (n : ℕ) (small : n < 10 ^ 12) where
  whole_small : n / 10000 < 10 ^ 8
  whole_small = omega (arith, small)

  whole_fits : n / 10000 < 2 ^ 64
  whole_fits = omega (arith, small)

  all_digits : list_all is_digit (decimal (n / 10000)) ≡ true
  all_digits = digits_decimal own (n / 10000) whole_fits

  whole_read : number_of 8 (decimal (n / 10000)) ≡ Some (n / 10000)
  whole_read = decimal_read 8 (n / 10000) (omega arith) whole_small whole_fits

  decimals_read : decimals_of 4 (four_digits n) ≡ Some (n % 10000)
  decimals_read = grind (arith, common_steps, number_read, lit≤, four_are_digits, four_read, times_one)

  pub size_read : fixed_point 4 (size_text n) ≡ Some n
  size_read = grind (arith, common_steps, cut_first, no_byte, all_digits, size_shape, whole_read, decimals_read, joined)

  pub size_below : (bound : ℕ) → n < bound → length_below bound (size_text n) ≡ Some n
  size_below bound less = grind (arith, common_steps, size_read, lt-ltb)

  pub size_unsigned : after_byte 45 (size_text n) ≡ None
  size_unsigned = grind (arith, common_steps, size_shape, no_minus, decimal_nonempty, whole_fits, all_digits)

  -- no comma is in it
  pub size_whole : list_all (λ x. not (x == 0x2C)) (size_text n) ≡ true
  size_whole =
      let whole = decimal (n / 10000) in
      ap (list_all (λ x. not (x == 0x2C))) (size_shape n) ∙ list_all-append (λ x. not (x == 0x2C)) whole (0x2E ∷ four_digits n)
      ∙ and_from (list_all (λ x. not (x == 0x2C)) whole) (list_all (λ x. not (x == 0x2C)) (0x2E ∷ four_digits n))
      (no_byte 0x2C whole refl all_digits) (no_byte 0x2C (four_digits n) refl (four_are_digits n))
