-- A date and time of day is read back from its columns.
use Rattle.rinex_file.proofs.HeaderRows.Types.{content_first}
use Rattle.rinex_file.proofs.Names.{length-right, length-padded, length-fixed, not_negative, digits_in-right, digits_in-fixed, digits_in-padded, digits_in-whole, arith, ◌≡◌, ℕ, zero, suc, ◌+◌, ◌*◌, ◌/◌, ◌^◌, ◌<◌, ◌≤◌, List, [], ◌∷◌, ◌++◌, refl, sym, ap, ◌∙◌, length, get_or, take, drop, append_assoc, decimal, pos, subst, lit<, codes, min, ⊤, is_negative, sign_text, length-decimal-le, take_at, drop_at, drop-drop, div-add-mod', Civil, IsCivilOf, civil_of, joined, right, padded, fixed, digits_in, epoch_line, line_with, row_label, First, first_content}
pub use Rattle.std.proofs.lemmas.Option.{none-some as none_some, same_Some}
pub use Rattle.gnss_obs.proofs.WalkLaws.{same_civil}

-- ---- fields of fixed widths, one after the other

-- a field with this width, and what is read of it
abbrev pub IsField : {X : Type 0} → (List ℕ → X) → List ℕ → ℕ × X → Type 0
IsField read f (w, x) = (length f ≡ w) × (read f ≡ x)

abbrev pub AreFields : {X : Type 0} → (List ℕ → X) → List (List ℕ) → List (ℕ × X) → Type 0
AreFields read [] [] = ⊤
AreFields read [] (p ∷ ps) = ⊥
AreFields read (f ∷ fs) [] = ⊥
AreFields read (f ∷ fs) (p ∷ ps) = IsField read f p × AreFields read fs ps

-- the column at which a field begins
abbrev pub start_of : {X : Type 0} → List (ℕ × X) → ℕ → ℕ
start_of ps zero = 0
start_of [] (suc k) = 0
start_of ((w, x) ∷ ps) (suc k) = w + start_of ps k

skip : (f rest : List ℕ) (w n : ℕ) → length f ≡ w → drop (w + n) (f ++ rest) ≡ drop n rest
skip f rest w n e = sym (drop-drop n w (f ++ rest)) ∙ ap (drop n) (drop_at f rest w e)

-- a field is read from its columns
pub field_at : {X : Type 0} (read : List ℕ → X) (fs : List (List ℕ)) (ps : List (ℕ × X)) (k : ℕ) (d : ℕ × X) (tail : List ℕ) → AreFields read fs ps → k < length ps
    → read (take (get_or ps k d).0 (drop (start_of ps k) (joined fs ++ tail))) ≡ (get_or ps k d).1
field_at read fs [] k d tail are less = absurd (omega (arith, less))
field_at read [] (p ∷ ps) k d tail are less = absurd are
field_at read (f ∷ fs) ((w, x) ∷ ps) zero d tail ((size, is), are) less = grind (arith, append_assoc, take_at)
field_at read (f ∷ fs) ((w, x) ∷ ps) (suc k) d tail ((size, is), are) less = grind (arith, append_assoc, skip, (field_at read fs ps k d tail are (omega (arith, less))))

-- ---- the lines with a date and time of day

-- the values that fit the columns of a date and time of day
pub record HasColumns (t : Civil) : Type 0 where
  pub year : t.year ≤ 9999
  pub month : t.month ≤ 12
  pub day : t.day ≤ 31
  pub hour : t.hour < 24
  pub minute : t.minute < 60
  pub millisecond : t.millisecond < 60_000

-- a number with leading blanks
is_whole : (width n : ℕ) → 0 < width → n < 10 ^ width → n < 2 ^ 64 → IsField digits_in (right width (decimal n)) (width, n)
is_whole width n some few fits = (length-right width (decimal n) (length-decimal-le width n some few fits), digits_in-whole width n fits)

is_six : (n : ℕ) → n < 10_000 → IsField digits_in (right 6 (decimal n)) (6, n)
is_six n few = is_whole 6 n (omega arith) (omega (arith, few)) (omega (arith, few))

-- seconds in 11 columns or more
is_second : (width s : ℕ) → 11 ≤ width → s < 60_000 → IsField digits_in (right width (fixed 7 (pos (s * 10_000)))) (width, s * 10_000)
is_second width s wide h =
    let l = length-fixed 7 2 (pos (s * 10_000)) (omega arith) (omega arith) (omega (arith, h)) (omega (arith, h)) in
    let none : length (sign_text (is_negative (pos (s * 10_000)))) ≡ 0 = ap (λ b. length (sign_text b)) (not_negative (s * 10_000)) in (
      length-right width (fixed 7 (pos (s * 10_000))) (omega (arith, l, none, wide)),
      digits_in-right width (fixed 7 (pos (s * 10_000))) ∙ digits_in-fixed 7 (pos (s * 10_000)) (omega arith) (omega (arith, h)),
    )

-- the numbers in the columns of a line: six for the year, then `w` for each other number and `k` for the seconds
pub record ShowDate (t : Civil) (w k : ℕ) (line : List ℕ) : Type 0 where
  pub year : digits_in (take 6 (drop 0 line)) ≡ t.year
  pub month : digits_in (take w (drop 6 line)) ≡ t.month
  pub day : digits_in (take w (drop (6 + w) line)) ≡ t.day
  pub hour : digits_in (take w (drop (6 + 2 * w) line)) ≡ t.hour
  pub minute : digits_in (take w (drop (6 + 3 * w) line)) ≡ t.minute
  pub second : digits_in (take k (drop (6 + 4 * w) line)) ≡ t.millisecond * 10_000

-- the fields of a date and time of day, and those after them
abbrev date_fields : Civil → ℕ → ℕ → List (ℕ × ℕ) → List (ℕ × ℕ)
date_fields t w k more = (6, t.year) ∷ (w, t.month) ∷ (w, t.day) ∷ (w, t.hour) ∷ (w, t.minute) ∷ (k, t.millisecond * 10_000) ∷ more

date_shown : (t : Civil) (w k : ℕ) (fs : List (List ℕ)) (more : List (ℕ × ℕ)) (tail : List ℕ) → AreFields digits_in fs (date_fields t w k more) → ShowDate t w k (joined fs ++ tail)
date_shown t w k fs more tail are =
    let line = joined fs ++ tail in
    let ps = date_fields t w k more in
    let at : (j : ℕ) → j < 6 → digits_in (take (get_or ps j (0, 0)).0 (drop (start_of ps j) line)) ≡ (get_or ps j (0, 0)).1 = λ j less. field_at digits_in fs ps j (0, 0) tail are (omega (arith, less)) in
    record {
      year = at 0 (lit< tt);
      month = at 1 (lit< tt);
      day = ap (λ (n : ℕ). digits_in (take w (drop n line))) (omega arith) ∙ at 2 (lit< tt);
      hour = ap (λ (n : ℕ). digits_in (take w (drop n line))) (omega arith) ∙ at 3 (lit< tt);
      minute = ap (λ (n : ℕ). digits_in (take w (drop n line))) (omega arith) ∙ at 4 (lit< tt);
      second = ap (λ (n : ℕ). digits_in (take k (drop n line))) (omega arith) ∙ at 5 (lit< tt);
    }

-- ---- the line of an epoch

epoch_parts : Civil → ℕ → List (List ℕ)
epoch_parts t n =
    (62 ∷ 32 ∷ right 4 (decimal t.year)) ∷ (32 ∷ padded 2 t.month) ∷ (32 ∷ padded 2 t.day) ∷ (32 ∷ padded 2 t.hour) ∷ (32 ∷ padded 2 t.minute)
    ∷ right 11 (fixed 7 (pos (t.millisecond * 10_000))) ∷ codes "  0" ∷ right 3 (decimal n) ∷ []

epoch_are : (t : Civil) (n : ℕ) → HasColumns t → n < 1000 → AreFields digits_in (epoch_parts t n) (date_fields t 3 11 ((3, 0) ∷ (3, n) ∷ []))
unfolding epoch_parts
epoch_are t n is few = grind (arith, is_whole, length-padded, digits_in-padded, is_second)

in_parts : (t : Civil) (n : ℕ) → epoch_line t n ≡ joined (epoch_parts t n) ++ (10 ∷ [])
unfolding epoch_line epoch_parts
in_parts t n = simp append_assoc

pub epoch_shown : (t : Civil) (n : ℕ) (line : List ℕ) → HasColumns t → n < 1000 → line ≡ epoch_line t n → ShowDate t 3 11 line × (digits_in (take 3 (drop 32 line)) ≡ n)
epoch_shown t n line is few e =
    let same = e ∙ in_parts t n in
    let are = epoch_are t n is few in
    let more : List (ℕ × ℕ) = (3, 0) ∷ (3, n) ∷ [] in (
      subst (ShowDate t 3 11) (sym same) (date_shown t 3 11 (epoch_parts t n) more (10 ∷ []) are),
      ap (λ l. digits_in (take 3 (drop 32 l))) same ∙ field_at digits_in (epoch_parts t n) (date_fields t 3 11 more) 7 (0, 0) (10 ∷ []) are (lit< tt),
    )

-- ---- the header's line of the first epoch

pub first_shown : (t : Civil) (line : List ℕ) → HasColumns t → line ≡ line_with First (first_content t) → ShowDate t 6 13 line
first_shown t line is e =
    let fs =
    right 6 (decimal t.year) ∷ right 6 (decimal t.month) ∷ right 6 (decimal t.day) ∷ right 6 (decimal t.hour) ∷ right 6 (decimal t.minute)
    ∷ right 13 (fixed 7 (pos (t.millisecond * 10_000))) ∷ codes "     GPS" ∷ [] in
    let (tail, shape) = content_first (joined fs) (row_label First) in
    let year = is_six t.year (omega (arith, is.year)) in
    let month = is_six t.month (omega (arith, is.month)) in
    let day = is_six t.day (omega (arith, is.day)) in
    let hour = is_six t.hour (omega (arith, is.hour)) in
    let minute = is_six t.minute (omega (arith, is.minute)) in
    let second = is_second 13 t.millisecond (omega arith) is.millisecond in
    subst (ShowDate t 6 13) (sym (e ∙ shape)) (date_shown t 6 13 fs ((8, 0) ∷ []) tail (year, (month, (day, (hour, (minute, (second, ((refl, refl), tt))))))))

-- ---- one time has a date and time of day

pub one_time : (t u : ℕ) (c : Civil) → IsCivilOf t c → IsCivilOf u c → t ≡ u
one_time t u c is also = grind (arith, div-add-mod')

-- ---- the date and time of day of the numbers that were read

pub has_columns : (t : ℕ) → IsCivilOf t (civil_of t) → ((civil_of t).year ≤ 9999) × ((civil_of t).month ≤ 12) × ((civil_of t).day ≤ 31) → HasColumns (civil_of t)
has_columns t is (year, month, day) = record { year = year; month = month; day = day; hour = is.valid.hour; minute = is.valid.minute; millisecond = is.valid.millisecond }

-- a number of a date is read back although it is limited to the largest value of its type
pub kept : {number digits value : ℕ} (most : ℕ) → number ≡ min digits most → digits ≡ value → value ≤ most → number ≡ value
kept most e f small = grind arith

pub kept_second : {number digits value : ℕ} → number ≡ min (digits / 10_000) 65_535 → digits ≡ value * 10_000 → value < 60_000 → number ≡ value
kept_second {digits = digits} {value} e f small = let d : digits / 10_000 ≡ value = omega (arith, f) in kept 65_535 e d (omega (arith, small))

abbrev pub of_numbers : ℕ → ℕ → ℕ → ℕ → ℕ → ℕ → Civil
of_numbers a b c d e f = record { year = a; month = b; day = c; hour = d; minute = e; millisecond = f }

-- the date and time of day that was read is that of a time whose line this is
pub found : (civil : Civil) (v : ℕ) → civil ≡ civil_of v → IsCivilOf v (civil_of v) → IsCivilOf v civil
found civil v same is = subst (λ (x : Civil). IsCivilOf v x) (sym same) is
