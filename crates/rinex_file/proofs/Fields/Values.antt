-- The value in the columns of a field: only its template leaves the digits of a size whose first digit is in its place.
use Rattle.rinex_file.proofs.Digits.Padded.{empty_columns}
use Rattle.rinex_file.proofs.Fields.Columns.{blank_columns, last_minus, empty_columns_are, field_text, within_columns}
use Rattle.rinex_file.proofs.Fields.Lanes.{taken, below_at, added_back, taken_back, template_below}
use Rattle.rinex_file.proofs.Fields.Templates.{added, front, start_is, leading-le, length-template, sign_before, value_columns}
use Rattle.rinex_file.proofs.OneReading.{field_parts}
use Rattle.rinex_file.proofs.Names.{not_negative, zip2, mask_l, top, common_steps, arith, ◌≡◌, ◌∙◌, sym, ap, ap₂, refl, subst, cond, ℕ, zero, suc, ◌+◌, ◌-◌, ◌*◌, ◌/◌, ◌%◌, ◌^◌, ◌<◌, ◌≤◌, List, [], ◌∷◌, ◌++◌, map, length, get_or, replicate, drop, take, decimal, append_assoc, true, false, eqb, not, inl, inr, ℤ, pos, unsigned_abs, Some, w8, Bool, ◌==◌, if◌then◌else◌, neg_ℤ, nat_lt, prefix_len, is_negative, cases_Bool, eqb-true, ne_eqb, ints, decimal_digit, first_decimal, length-map, prefix_len-le-length, bitmask_splat, first_set_mask_l, mask_l-mod, length-zip2, drop_all, drop_more, get_or-drop, get_or-zip2, add-one, FitsColumns, field, AreBelow, AreWithin, blanks, digit_columns, has_minus, leading, template, LIMITS, le-ltb, ltb-false}
use lib.Count.{count_trailing_zeros}

-- ---- lanes that are not above their limits

abbrev pub above : List ℕ → List ℕ → ℕ
above ls ds = mask_l (map (top 7) (zip2 (λ a b. cond (nat_lt a b) 255 0) ls ds))

none_above : (ls ds : List ℕ) → AreWithin ls ds → above ls ds ≡ 0
none_above (l ∷ ls) (d ∷ ds) h = grind (arith, le-ltb, (none_above ls ds h.1))
none_above ls ds h = refl

all_within : (ls ds : List ℕ) → above ls ds ≡ 0 → AreWithin ls ds
all_within [] ds e = tt
all_within (l ∷ ls) [] e = tt
all_within (l ∷ ls) (d ∷ ds) e =
    elim (cases_Bool (nat_lt l d)) [
      | inl over ↦ let one : 1 + 2 * above ls ds ≡ 0 = ap (λ b. cond (top 7 (cond b 255 0)) 1 0 + 2 * above ls ds) (sym over) ∙ e in absurd (omega (arith, one))
      | inr low ↦
          (ltb-false l d low, all_within ls ds (omega arith))
    ]

-- no digit is above its limit if and only if no lane of the comparison is set
pub limits : (ds : List ℕ) → length ds ≡ 16 → (above LIMITS ds % 2 ^ 64 ≡ 0 → AreWithin LIMITS ds) × (AreWithin LIMITS ds → above LIMITS ds % 2 ^ 64 ≡ 0)
limits ds size =
    let differ = λ (a b : ℕ). cond (nat_lt a b) 255 0 in
    let lanes_are = length-map (zip2 differ LIMITS ds) (top 7) in
    let count = length-zip2 differ LIMITS ds (sym size) in
    let same : above LIMITS ds % 2 ^ 64 ≡ above LIMITS ds = mask_l-mod (map (top 7) (zip2 differ LIMITS ds)) 64 (omega (arith, lanes_are, count)) in
    (λ none. all_within LIMITS ds (sym same ∙ none), λ are. same ∙ none_above LIMITS ds are)

-- ---- the blanks before other columns

blanks_counted : (xs : List ℕ) → prefix_len (λ x. not (not (eqb x 32))) xs ≡ blanks xs
blanks_counted [] = refl
blanks_counted (x ∷ xs) = ap₂ (λ b n. cond b (1 + n) 0) (grind arith) (blanks_counted xs)

-- which columns are not blank
abbrev written : List ℕ → ℕ
written xs = mask_l (map (top 7) (zip2 (λ a b. cond (not (eqb a b)) 255 0) xs (replicate 16 32))) % 2 ^ 64

first_written : (xs : List ℕ) → length xs ≡ 16 → cond (eqb (written xs) 0) 16 (count_trailing_zeros 64 (written xs)) ≡ blanks xs
first_written xs size =
    ap (λ m. cond (eqb m 0) 16 (count_trailing_zeros 64 m)) (bitmask_splat w8 (λ a b. not (eqb a b)) xs 16 32 size (omega arith))
    ∙ first_set_mask_l (λ x. not (eqb x 32)) xs 16 size (omega arith) ∙ blanks_counted xs

pub none_written : (xs : List ℕ) → length xs ≡ 16 → written xs ≡ 0 → 16 ≡ blanks xs
none_written xs size none = sym (ap (λ m. cond (eqb m 0) 16 (count_trailing_zeros 64 m)) none) ∙ first_written xs size

pub some_written : (xs : List ℕ) → length xs ≡ 16 → (written xs ≡ 0 → ⊥) → count_trailing_zeros 64 (written xs) ≡ blanks xs
some_written xs size some = sym (ap (λ b. cond b 16 (count_trailing_zeros 64 (written xs))) (ne_eqb (written xs) 0 some)) ∙ first_written xs size

pub few_blanks : (xs : List ℕ) → length xs ≡ 16 → (written xs ≡ 0 → ⊥) → count_trailing_zeros 64 (written xs) ≤ 16
few_blanks xs size some = grind (arith, some_written, prefix_len-le-length)

blanks_first : (xs : List ℕ) → xs ≡ replicate (blanks xs) 32 ++ drop (blanks xs) xs
blanks_first [] = refl
blanks_first (x ∷ xs) =
    elim (cases_Bool (x == 32)) [
      | inl blank ↦
          let more : suc (blanks xs) ≡ blanks (x ∷ xs) = omega arith ∙ ap (λ b. cond b (1 + blanks xs) 0) (sym blank) in
          ap₂ (λ a r. a ∷ r) (eqb-true x 32 blank) (blanks_first xs) ∙ ap (λ k. replicate k 32 ++ drop k (x ∷ xs)) more
      | inr other ↦ ap (λ k. replicate k 32 ++ drop k (x ∷ xs)) (ap (λ b. cond b (1 + blanks xs) 0) (sym other))
    ]

pub sixteen_blank : (xs : List ℕ) (n : ℕ) → length xs ≡ 16 → n ≡ blanks xs → n ≡ 16 → xs ≡ replicate 16 32
sixteen_blank xs n size count all =
    let k : blanks xs ≡ 16 = sym count ∙ all in
    blanks_first xs ∙ ap (λ k. replicate k 32 ++ drop k xs) k ∙ ap (λ r. replicate 16 32 ++ r) (drop_all 16 xs (omega (arith, size)))

-- blanks before another column
blanks_before : (k b : ℕ) (rest : List ℕ) → (b == 32) ≡ false → (blanks (replicate k 32 ++ b ∷ rest) ≡ k) × (get_or (replicate k 32 ++ b ∷ rest) k 0 ≡ b)
blanks_before zero b rest other = (ap (λ t. cond t (1 + blanks rest) 0) other, refl)
blanks_before (suc k) b rest other = grind (arith, (blanks_before k b rest other))

begins_with : (columns rest : List ℕ) (k b : ℕ) → columns ≡ replicate k 32 ++ b ∷ rest → (b == 32) ≡ false → (blanks columns ≡ k) × (has_minus columns ≡ (b == 45))
begins_with columns rest k b is other = grind (arith, blanks_before)

-- a text that begins with a digit
abbrev BeginsWithDigit : List ℕ → Type 0
BeginsWithDigit text = (b : ℕ) × (rest : List ℕ) × (text ≡ b ∷ rest) × (48 ≤ b)

decimal_begins : (w : ℕ) → w < 2 ^ 64 → BeginsWithDigit (decimal w)
decimal_begins zero h = (48, [], decimal_digit 0 (omega arith), omega arith)
decimal_begins (suc n) h = grind (arith, common_steps, first_decimal (suc n) (omega arith) h)

digit_is : (b : ℕ) → 48 ≤ b → ((b == 32) ≡ false) × ((b == 45) ≡ false)
digit_is b h = (grind arith, grind arith)

-- ---- the columns of a value

-- those before its first digit
abbrev pub Begins : List ℕ → Bool → ℕ → Type 0
Begins columns b start = (has_minus columns ≡ b) × ((if b then blanks columns + 1 else blanks columns) ≡ start)

begins_by : (b : Bool) (start w : ℕ) (columns rest : List ℕ) → w < 2 ^ 64 → (b ≡ true → 1 ≤ start) → columns ≡ empty_columns b start ++ (decimal w ++ rest) → Begins columns b start
begins_by false start w columns rest small some is =
    let (d, more, text, low) = decimal_begins w small in
    let (blank, minus) = digit_is d low in
    let (count, sign) = begins_with columns (more ++ rest) start d (is ∙ ap₂ (λ a t. a ++ (t ++ rest)) (blank_columns start) text) blank in
    (sign ∙ minus, count)
begins_by true start w columns rest small some is =
    let (count, sign) = begins_with columns (decimal w ++ rest) (start - 1) 45 (is ∙ ap (λ a. a ++ (decimal w ++ rest)) (empty_columns_are true start some) ∙ append_assoc (replicate (start - 1) 32) (45 ∷ []) (decimal w ++ rest)) refl in
    (sign, ap (λ n. n + 1) count ∙ omega (arith, some refl))

value_begins : (v : ℤ) (lost strength : ℕ) → FitsColumns v → Begins (field (Some v) lost strength) (is_negative v) (leading (front (unsigned_abs v)))
value_begins v lost strength fits =
    let small = within_columns v fits in
    begins_by (is_negative v) (leading (front (unsigned_abs v))) (unsigned_abs v / 1000) _ _ (omega (arith, small)) (sign_before v fits) (field_text v _ lost strength (start_is _ small) (sign_before v fits))

-- no value has more than nine blanks before it
pub few_before : (columns : List ℕ) (v : ℤ) (lost strength : ℕ) → FitsColumns v → columns ≡ field (Some v) lost strength → blanks columns ≤ 9
few_before columns v lost strength fits is = grind (arith, value_begins v lost strength fits)

-- the digits that are left of the columns of a value
pub record IsShown (ds : List ℕ) (start : ℕ) (b : Bool) (v : ℤ) : Type 0 where
  pub lost : ℕ
  pub strength : ℕ
  pub digits : ds ≡ digit_columns (unsigned_abs v) lost strength
  pub ends : (lost < 256) × (strength < 256)
  pub size : unsigned_abs v < 10 ^ 13
  pub lead : leading (front (unsigned_abs v)) ≡ start
  pub sign : is_negative v ≡ b

-- the last columns with and without the blanks of the template
end_back : (y : ℕ) → y < 256 → added (taken y 32) 32 ≡ y
end_back y h = omega (arith, h)

pub shown : {columns ts : List ℕ} {start : ℕ} {b : Bool} {v : ℤ} → AreBelow 256 columns → FitsColumns v → columns ≡ field (Some v) (get_or columns 14 0) (get_or columns 15 0)
    → b ≡ has_minus columns → start ≡ (if b then blanks columns + 1 else blanks columns) → (start ≤ 9 → (b ≡ true → 1 ≤ start) → ts ≡ template b 9 start) → IsShown (zip2 taken columns ts) start b v
shown {columns} {ts} {start} {b} {v} below fits is minus at rows =
    let n = unsigned_abs v in
    let y = get_or columns 14 0 in
    let z = get_or columns 15 0 in
    let small = within_columns v fits in
    let (sign_is, begin) = value_begins v y z fits in
    let sign : is_negative v ≡ b = sym (minus ∙ ap has_minus is ∙ sign_is) in
    let lead : leading (front n) ≡ start = sym (at ∙ ap (λ (l : List ℕ). if b then blanks l + 1 else blanks l) is ∙ ap (λ (t : Bool). if t then blanks (field (Some v) y z) + 1 else blanks (field (Some v) y z)) (sym sign) ∙ begin) in
    let few = leading-le (front n) in
    let ts_is : ts ≡ template b 9 start = rows (omega (arith, lead, few)) (λ is. subst (λ (k : ℕ). 1 ≤ k) lead (sign_before v fits (sign ∙ is))) in
    let low : (taken y 32 < 256) × (taken z 32 < 256) = (omega arith, omega arith) in
    let ds : List ℕ = digit_columns n (taken y 32) (taken z 32) in
    let whole : columns ≡ zip2 added ds (template b 9 start) =
    is ∙ ap₂ (λ p q. field (Some v) p q) (sym (end_back y (below_at 256 columns (omega arith) below 14))) (sym (end_back z (below_at 256 columns (omega arith) below 15))) ∙ sym (value_columns v (taken y 32) (taken z 32) fits)
    ∙ ap₂ (λ t k. zip2 added ds (template t 9 k)) sign lead in
    record {
      lost = taken y 32;
      strength = taken z 32;
      digits = ap₂ (zip2 taken) whole ts_is ∙ taken_back ds (template b 9 start) (sym (length-template b 9 start)) (omega (arith, small, low.0, low.1)) (template_below b 9 start);
      ends = low;
      size = small;
      lead = lead;
      sign = sign;
    }

pub within : (ds : List ℕ) (start : ℕ) (b : Bool) (v : ℤ) → IsShown ds start b v → AreWithin LIMITS ds
within ds start b v is = grind arith

-- a negative value has a digit other than zero
pub no_zero : {ds : List ℕ} {start s y z : ℕ} {b : Bool} {v : ℤ} → IsShown ds start b v → b ≡ true → s ≡ 0 → ds ≡ digit_columns s y z → ⊥
no_zero is minus none digits = grind arith

-- ---- the value in columns

abbrev pub IsValue : List ℕ → ℤ → Type 0
IsValue columns v = FitsColumns v × (columns ≡ field (Some v) (get_or columns 14 0) (get_or columns 15 0))

-- columns that begin so
begin_as : (b : Bool) (start : ℕ) (columns : List ℕ) → length columns ≡ 16 → blanks columns ≤ 9 → Begins columns b start → columns ≡ empty_columns b start ++ drop start columns
begin_as b start columns size few h2 = grind (arith, blanks_first, blank_columns, eqb-true, drop_more, append_assoc, last_minus, add-one)

zeros_before : (b : Bool) (n start : ℕ) (rest : List ℕ) → start ≤ n → get_or rest 0 0 < 256 → (start < n → get_or rest 0 0 ≡ 48 → ⊥)
    → leading (take n (zip2 taken (empty_columns b start ++ rest) (template b n start))) ≡ start
zeros_before b zero start rest few small some = omega (arith, few)
zeros_before b (suc n) zero [] few small some = refl
zeros_before b (suc n) zero (x ∷ rest) few small some = grind arith
zeros_before b (suc n) (suc start) rest few small some = grind (arith, (zeros_before b n start rest (omega (arith, few)) small (λ h. some (omega (arith, h)))))

-- sixteen columns of a field, of which at most nine are blank before the value
pub record AreColumns (columns : List ℕ) : Type 0 where
  pub size : length columns ≡ 16
  pub below : AreBelow 256 columns
  pub few : blanks columns ≤ 9

pub first_is : {columns : List ℕ} (b : Bool) (start : ℕ) → AreColumns columns → Begins columns b start → start ≤ 9 → (start < 9 → get_or columns start 0 ≡ 48 → ⊥)
    → leading (take 9 (zip2 taken columns (template b 9 start))) ≡ start
first_is {columns} b start are begin less some =
    let first : get_or (drop start columns) 0 0 ≡ get_or columns start 0 = get_or-drop start columns 0 0 ∙ ap (λ n. get_or columns n 0) (omega arith) in
    ap (λ l. leading (take 9 (zip2 taken l (template b 9 start)))) (begin_as b start columns are.size are.few begin)
    ∙ zeros_before b 9 start (drop start columns) less (subst (λ (d : ℕ). d < 256) (sym first) (below_at 256 columns (omega arith) are.below start)) (λ h zero. some h (sym first ∙ zero))

-- no minus is in the column of the last whole digit
pub within_nine : {columns : List ℕ} (ts : List ℕ) (start : ℕ) (b : Bool) → AreColumns columns → length ts ≡ 16 → Begins columns b start → (start ≡ 10 → get_or ts 9 0 ≡ 48)
    → AreWithin LIMITS (zip2 taken columns ts) → start ≤ 9
within_nine ts start false are long (sign, at) last within = omega (arith, at, are.few)
within_nine {columns} ts start true are long (sign, at) last within =
    let minus : start ≡ 10 → get_or (zip2 taken columns ts) 9 0 ≡ 253 = λ ten. get_or-zip2 taken columns ts 9 0 0 0 (omega (arith, are.size)) (omega (arith, long))
    ∙ ap₂ taken (ap (λ n. get_or columns n 0) (omega (arith, at, ten)) ∙ eqb-true (get_or columns (blanks columns) 0) 45 sign) (last ten) in
    grind (arith, at, are.few, minus)

-- the digits of a zero begin with one
pub zero_first : {columns ts : List ℕ} (b : Bool) {start s y z : ℕ} → AreColumns columns → start ≡ leading (front s) → ts ≡ template b 9 start → zip2 taken columns ts ≡ digit_columns s y z → s ≡ 0 → get_or columns start 0 ≡ 48
zero_first b are lead row digits none = grind (arith, common_steps, below_at, get_or-zip2)

-- no value with more than one whole digit begins with a zero
pub no_zero_first : (b : Bool) (n start : ℕ) (xs : List ℕ) → start < n → get_or xs start 0 ≡ 48 → leading (take n (zip2 taken xs (template b n start))) ≡ start → ⊥
no_zero_first b n start [] small none is = absurd (omega (arith, none))
no_zero_first b zero start (x ∷ xs) small none is = omega (arith, small)
no_zero_first b (suc n) zero (x ∷ xs) small none is = grind (arith, common_steps, taken)
no_zero_first b (suc n) (suc start) (x ∷ xs) small none is =
    no_zero_first b n start xs (omega (arith, small)) none (grind (arith, common_steps))

-- the value of a size and a sign
signed_is : (s : ℕ) (b : Bool) → s < 10 ^ 13 → (b ≡ true → 1 ≤ leading (front s)) → (b ≡ true → s ≡ 0 → ⊥)
    → FitsColumns (if b then neg_ℤ (pos s) else pos s) × (is_negative (if b then neg_ℤ (pos s) else pos s) ≡ b) × (unsigned_abs (if b then neg_ℤ (pos s) else pos s) ≡ s)
signed_is s b small before some = grind (arith, ints, not_negative)

-- these are the columns of the value whose digits are left
pub value_is : {columns ts : List ℕ} (s : ℕ) {start : ℕ} (b : Bool) → AreColumns columns → s < 10 ^ 13 → start ≡ leading (front s) → (b ≡ true → (1 ≤ start) × (s ≡ 0 → ⊥))
    → ts ≡ template b 9 start → zip2 taken columns ts ≡ digit_columns s (get_or (zip2 taken columns ts) 14 0) (get_or (zip2 taken columns ts) 15 0) → IsValue columns (if b then neg_ℤ (pos s) else pos s)
value_is {columns} {ts} s {start} b are small lead minus is digits =
    let v : ℤ = if b then neg_ℤ (pos s) else pos s in
    let y = added (get_or (zip2 taken columns ts) 14 0) 32 in
    let z = added (get_or (zip2 taken columns ts) 15 0) 32 in
    let (fits, sign, size) = signed_is s b small (λ is. subst (λ (n : ℕ). 1 ≤ n) lead (minus is).0) (λ is. (minus is).1) in
    let below : AreBelow 256 ts = subst (AreBelow 256) (sym is) (template_below b 9 start) in
    let shown = value_columns v (get_or (zip2 taken columns ts) 14 0) (get_or (zip2 taken columns ts) 15 0) fits in
    let text : columns ≡ field (Some v) y z =
    sym (added_back columns ts (are.size ∙ sym (ap length is ∙ length-template b 9 start)) are.below below)
    ∙ ap₂ (zip2 added) (digits ∙ ap (λ n. digit_columns n (get_or (zip2 taken columns ts) 14 0) (get_or (zip2 taken columns ts) 15 0)) (sym size))
    (is ∙ ap₂ (λ t n. template t 9 n) (sym sign) (lead ∙ ap (λ n. leading (front n)) (sym size))) ∙ shown in
    let (_, lost, strength) = field_parts v y z fits in
    (fits, text ∙ ap₂ (λ p q. field (Some v) p q) (sym (ap (λ r. get_or r 14 0) text ∙ lost)) (sym (ap (λ r. get_or r 15 0) text ∙ strength)))
