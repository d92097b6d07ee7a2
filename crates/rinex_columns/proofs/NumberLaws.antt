-- A number that was written is read back, so its text determines it.
use Rattle.rinex_columns.proofs.Names.{rules, arith, ◌≡◌, ℕ, zero, suc, ◌+◌, ◌-◌, ◌*◌, ◌/◌, ◌%◌, ◌^◌, ◌<◌, ◌≤◌, List, [], ◌∷◌, ◌++◌, length, replicate, decimal, refl, sym, ap, ◌∙◌, Bool, false, append_assoc, length-append, ℤ, pos, unsigned_abs, ◌||◌, ◌==◌, is_negative, sign_text, pow-suc, div-le_self, mod-le, mod-lt, pow-add, div-add-mod', length-replicate, decimal_by_steps, length-decimal-le, right, padded, fixed, next_digit, digits_from, digits_in, has, number_in}

pub digits_from-append : (n : ℕ) (xs ys : List ℕ) → digits_from n (xs ++ ys) ≡ digits_from (digits_from n xs) ys
digits_from-append n [] ys = refl
digits_from-append n (x ∷ xs) ys = digits_from-append (next_digit n x) xs ys

pub digits_from-blanks : (k n : ℕ) → digits_from n (replicate k 32) ≡ n
digits_from-blanks zero n = refl
digits_from-blanks (suc k) n = digits_from-blanks k n

next_digit-digit : (n d : ℕ) → d < 10 → next_digit n (48 + d) ≡ n * 10 + d
next_digit-digit n d h = grind arith

shift : (n p : ℕ) → (n * 10 + 0) * p ≡ n * (p * 10)
shift n p = omega arith

pub digits_from-zeros : (k n : ℕ) → digits_from n (replicate k 48) ≡ n * 10 ^ k
digits_from-zeros zero n = omega arith
digits_from-zeros (suc k) n = digits_from-zeros k (next_digit n 48) ∙ shift n (10 ^ k) ∙ ap (λ p. n * p) (sym (pow-suc 10 k))

-- the digits of n after a number
abbrev Reads : ℕ → List ℕ → Type 0
Reads n ds = (m : ℕ) → digits_from m ds ≡ m * 10 ^ length ds + n

reads_one : (n : ℕ) → n < 10 → Reads n ((48 + n) ∷ [])
reads_one n h m = next_digit-digit m n h ∙ omega arith

regroup : (m p q r n : ℕ) → n ≡ 10 * q + r → (m * p + q) * 10 + r ≡ m * (p * 10) + n
regroup m p q r n e = omega (arith, e)

reads_more : (n : ℕ) (ds : List ℕ) → 10 ≤ n → Reads (n / 10) ds → Reads n (ds ++ ((48 + n % 10) ∷ []))
reads_more n ds h before m =
    let e = digits_from-append m ds ((48 + n % 10) ∷ []) in
    let l : length (ds ++ ((48 + n % 10) ∷ [])) ≡ suc (length ds) = simp length-append (omega arith) in
    let p : 10 ^ length (ds ++ ((48 + n % 10) ∷ [])) ≡ 10 ^ length ds * 10 = ap (λ k. 10 ^ k) l ∙ pow-suc 10 (length ds) in
    e ∙ ap (λ k. next_digit k (48 + n % 10)) (before m) ∙ next_digit-digit (m * 10 ^ length ds + n / 10) (n % 10) (omega arith)
    ∙ regroup m (10 ^ length ds) (n / 10) (n % 10) n (omega arith) ∙ ap (λ k. m * k + n) (sym p)

pub digits_from-decimal : (n : ℕ) → n < 2 ^ 64 → Reads n (decimal n)
digits_from-decimal n h = decimal_by_steps Reads reads_one reads_more n h

pub ten_pow : (n : ℕ) → 0 < 10 ^ n
ten_pow zero = omega arith
ten_pow (suc n) = let h = ten_pow n in rw pow-suc (omega (arith, h))

-- ---- a number with leading zeros

pub length-padded : (places n : ℕ) → 0 < places → n < 10 ^ places → n < 2 ^ 64 → length (padded places n) ≡ places
length-padded places n some small fits = grind (arith, length-decimal-le, length-append, length-replicate)

joined : (m p q r n : ℕ) → r ≡ p * q → m * p * q + n ≡ m * r + n
joined m p q r n e = rw e (omega arith)

zero_times : (l w p r : ℕ) → (0 * l + w) * p + r ≡ w * p + r
zero_times l w p r = omega arith

three_parts : (sign whole part : List ℕ) (digits places : ℕ) → length whole ≤ digits → length part ≡ places
    → length (sign ++ whole ++ 46 ∷ part) ≤ length sign + (digits + (1 + places))
three_parts sign whole part digits places w p = simp length-append (omega (arith, w, p))

pub digits_from-padded : (places n m : ℕ) → 0 < places → n < 10 ^ places → n < 2 ^ 64 → digits_from m (padded places n) ≡ m * 10 ^ places + n
digits_from-padded places n m some small fits =
    let k = places - length (decimal n) in
    let short = length-decimal-le places n some small fits in
    let e : places ≡ k + length (decimal n) = omega (arith, short) in
    let sum : 10 ^ places ≡ 10 ^ k * 10 ^ length (decimal n) = ap (λ a. 10 ^ a) e ∙ pow-add 10 k (length (decimal n)) in
    digits_from-append m (replicate k 48) (decimal n) ∙ ap (λ a. digits_from a (decimal n)) (digits_from-zeros k m)
    ∙ digits_from-decimal n fits (m * 10 ^ k) ∙ joined m (10 ^ k) (10 ^ length (decimal n)) (10 ^ places) n sum

pub digits_in-right : (width : ℕ) (text : List ℕ) → digits_in (right width text) ≡ digits_in text
digits_in-right width text = digits_from-append 0 (replicate (width - length text) 32) text ∙ ap (λ a. digits_from a text) (digits_from-blanks (width - length text) 0)

-- ---- a number with decimals

digits_in-sign : (b : Bool) (text : List ℕ) → digits_in (sign_text b ++ text) ≡ digits_in text
digits_in-sign b text = grind arith

-- the whole part, a point and the digits after it
whole_and_part : (places n : ℕ) → 0 < places → n < 2 ^ 64 → digits_in (decimal (n / 10 ^ places) ++ 46 ∷ padded places (n % 10 ^ places)) ≡ n
whole_and_part places n some fits = grind (arith, ten_pow, mod-lt, div-le_self, mod-le, digits_from-append, digits_from-decimal, digits_from-padded, zero_times, div-add-mod')

pub digits_in-fixed : (places : ℕ) (z : ℤ) → 0 < places → unsigned_abs z < 2 ^ 64 → digits_in (fixed places z) ≡ unsigned_abs z
digits_in-fixed places z some fits = grind (arith, append_assoc, digits_in-sign, whole_and_part)

-- ---- the sign

pub has-append : (c : ℕ) (xs ys : List ℕ) → has c (xs ++ ys) ≡ (has c xs || has c ys)
has-append c [] ys = refl
has-append c (x ∷ xs) ys = grind (arith, (has-append c xs ys))

pub has-not : (c k b : ℕ) → (b == c) ≡ false → has c (replicate k b) ≡ false
has-not c zero b h = refl
has-not c (suc k) b h = ap (λ a. a || has c (replicate k b)) h ∙ has-not c k b h

pub lacks-append : (c : ℕ) (xs ys : List ℕ) → has c xs ≡ false → has c ys ≡ false → has c (xs ++ ys) ≡ false
lacks-append c xs ys x y = has-append c xs ys ∙ ap (λ b. b || has c ys) x ∙ y

lacks-digit : (c d : ℕ) → c < 48 → has c ((48 + d) ∷ []) ≡ false
lacks-digit c d low = grind arith

pub lacks-decimal : (c n : ℕ) → c < 48 → n < 2 ^ 64 → has c (decimal n) ≡ false
lacks-decimal c n low h =
    decimal_by_steps (λ m ds. has c ds ≡ false) (λ m small. lacks-digit c m low) (λ m ds big before. lacks-append c ds _ before (lacks-digit c (m % 10) low)) n h

pub lacks-padded : (c places n : ℕ) → c < 48 → n < 2 ^ 64 → has c (padded places n) ≡ false
lacks-padded c places n low h = grind (arith, lacks-append, has-not, lacks-decimal)

no_minus-size : (places n : ℕ) → n < 2 ^ 64 → has 45 (decimal (n / 10 ^ places) ++ 46 ∷ padded places (n % 10 ^ places)) ≡ false
no_minus-size places n fits = grind (arith, div-le_self, mod-le, lacks-append, lacks-decimal, lacks-padded)

pub has-right : (c width : ℕ) (text : List ℕ) → (32 == c) ≡ false → has c (right width text) ≡ has c text
has-right c width text other = has-append c (replicate (width - length text) 32) text ∙ ap (λ b. b || has c text) (has-not c (width - length text) 32 other)

pub not_negative : (n : ℕ) → is_negative (pos n) ≡ false
not_negative n = search rules

has_minus-fixed : (places : ℕ) (z : ℤ) → unsigned_abs z < 2 ^ 64 → has 45 (fixed places z) ≡ is_negative z
has_minus-fixed places z fits = grind (arith, not_negative, no_minus-size)

-- ---- the number is read back, so its text determines it

by_parts : (z : ℤ) (text : List ℕ) → digits_in text ≡ unsigned_abs z → has 45 text ≡ is_negative z → number_in text ≡ z
by_parts z text d m = grind (arith, not_negative)

pub number_in-fixed : (width places : ℕ) (z : ℤ) → 0 < places → unsigned_abs z < 2 ^ 64 → number_in (right width (fixed places z)) ≡ z
number_in-fixed width places z some fits = grind (arith, by_parts, digits_in-right, digits_in-fixed, has-right, has_minus-fixed)

pub digits_in-padded : (places n : ℕ) → 0 < places → n < 10 ^ places → n < 2 ^ 64 → digits_in (padded places n) ≡ n
digits_in-padded places n some small fits = digits_from-padded places n 0 some small fits ∙ omega arith

pub digits_in-whole : (width n : ℕ) → n < 2 ^ 64 → digits_in (right width (decimal n)) ≡ n
digits_in-whole width n fits = digits_in-right width (decimal n) ∙ digits_from-decimal n fits 0 ∙ omega arith

-- ---- lengths

pub length-right : (width : ℕ) (text : List ℕ) → length text ≤ width → length (right width text) ≡ width
length-right width text short = simp (length-append, length-replicate) (omega (arith, short))

pub length-sign : (b : Bool) → length (sign_text b) ≤ 1
length-sign b = grind arith

-- this number of digits before the point
pub length-fixed : (places digits : ℕ) (z : ℤ) → 0 < places → 0 < digits → unsigned_abs z < 2 ^ 64 → unsigned_abs z / 10 ^ places < 10 ^ digits
    → length (fixed places z) ≤ length (sign_text (is_negative z)) + (digits + (1 + places))
length-fixed places digits z some any fits bound = grind (arith, div-le_self, mod-le, length-decimal-le, mod-lt, ten_pow, length-padded, three_parts)

pub length-padded-le : (places n : ℕ) → n < 2 ^ 64 → length (padded places n) ≤ places + 20
length-padded-le places n fits =
    let digits = length-decimal-le 20 n (omega arith) (omega arith) fits in
    simp (length-append, length-replicate) (omega (arith, digits))

pub length-fixed-le : (places : ℕ) (z : ℤ) → unsigned_abs z < 2 ^ 64 → length (fixed places z) ≤ places + 42
length-fixed-le places z fits =
    let below = div-le_self (unsigned_abs z) (10 ^ places) in
    let least = mod-le (unsigned_abs z) (10 ^ places) in
    let whole = length-decimal-le 20 (unsigned_abs z / 10 ^ places) (omega arith) (omega (arith, below, fits)) (omega (arith, below, fits)) in
    let part = length-decimal-le 20 (unsigned_abs z % 10 ^ places) (omega arith) (omega (arith, least, fits)) (omega (arith, least, fits)) in
    simp (length-append, length-replicate) (omega (arith, whole, part, length-sign (is_negative z)))
