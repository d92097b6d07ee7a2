-- Version, position and height are read back from their lines; the lines of a header up to a row and from it on.
use Rattle.rinex_file.proofs.Reading.Dates.{IsField, AreFields, field_at}
use Rattle.rinex_file.proofs.HeaderRows.Types.{content_first}
use Rattle.rinex_file.proofs.Names.{flat_map-append, number_in-fixed, digits_in-right, digits_in-fixed, length-fixed, length-right, length-sign, mod-eq_of_lt, IsInterval, arith, ◌≡◌, ◌∙◌, refl, sym, ap, ℕ, ◌+◌, ◌<◌, ◌≤◌, ◌^◌, List, [], ◌∷◌, ◌++◌, length, take, drop, append-nil, length-append, Bool, true, false, ℤ, pos, unsigned_abs, suc, lit<, ◌==◌, if◌then◌else◌, flat_map, slice_get, unwrap_or, is_negative, digits, ints, take_more, take-append-drop, drop-cons, System, passes_at, is_equal, planned_of, joined, right, fixed, digits_in, number_in, header_line, lengths, height_line, row_line, row_lines, has_line, header_lines, all_rows, row_count, row_at, row_place, lines_after, Shown, Version, Delta, Interval, line_with, row_label, version_content, interval_content, lines_before, IsShown, AreTypes, IsCoordinate, End, HeaderRow, drop-append-le, common_steps}

-- ---- version

pub letter_at : (letter : ℕ) → unwrap_or (slice_get (take 1 (drop 40 (line_with Version (version_content letter)))) 0) 0 ≡ letter
unfolding header_line digits
letter_at letter = refl

-- ---- position and height

-- a number that fits 14 columns
abbrev pub Fits14 : ℤ → Type 0
Fits14 z = unsigned_abs z < 10 ^ 12

fits_64 : (n : ℕ) → n < 10 ^ 12 → n < 2 ^ 64
fits_64 n h = omega (arith, h)

length-column : (z : ℤ) → Fits14 z → length (right 14 (fixed 4 z)) ≡ 14
length-column z h = grind (arith, common_steps, length-right, length-sign, length-fixed 4 8 z (omega arith) (omega arith) (fits_64 (unsigned_abs z) h) (omega (arith, h)))

is_length : (z : ℤ) → Fits14 z → IsField number_in (right 14 (fixed 4 z)) (14, z)
is_length z h = (length-column z h, number_in-fixed 14 4 z (omega arith) (fits_64 (unsigned_abs z) h))

-- columns of a line from one on, read as a number
abbrev pub number_at : ℕ → List ℕ → ℤ
number_at from line = number_in (take 14 (drop from line))

pub lengths-back : (x y z : ℤ) (label : List ℕ) → Fits14 x → Fits14 y → Fits14 z
    → (number_at 0 (header_line (lengths x y z) label) ≡ x) × (number_at 14 (header_line (lengths x y z) label) ≡ y) × (number_at 28 (header_line (lengths x y z) label) ≡ z)
lengths-back x y z label a b c =
    let fs = right 14 (fixed 4 x) ∷ right 14 (fixed 4 y) ∷ right 14 (fixed 4 z) ∷ [] in
    let ps : List (ℕ × ℤ) = (14, x) ∷ (14, y) ∷ (14, z) ∷ [] in
    let (rest, shape) = content_first (joined fs) label in
    let are : AreFields number_in fs ps = (is_length x a, (is_length y b, (is_length z c, tt))) in
    let at = λ (k : ℕ) (less : k < 3). field_at number_in fs ps k (0, pos 0) rest are less in
    (ap (number_at 0) shape ∙ at 0 (lit< tt), ap (number_at 14) shape ∙ at 1 (lit< tt), ap (number_at 28) shape ∙ at 2 (lit< tt))

is_height : (h : ℕ) → h < 2 ^ 16 → IsField digits_in (right 14 (fixed 4 (pos h))) (14, h)
is_height h small = (length-column (pos h) (omega (arith, small)), digits_in-right 14 (fixed 4 (pos h)) ∙ digits_in-fixed 4 (pos h) (omega arith) (omega (arith, small)))

-- the height is no less than zero
pub height-back : (h : ℕ) → h < 2 ^ 16 → digits_in (take 14 (drop 0 (height_line h))) ≡ h
height-back h small =
    let f = right 14 (fixed 4 (pos h)) in
    let none = right 14 (fixed 4 (pos 0)) in
    let (rest, shape) = content_first (joined (f ∷ none ∷ none ∷ [])) (row_label Delta) in
    let zero = is_height 0 (lit< tt) in
    ap (λ l. digits_in (take 14 (drop 0 l))) shape ∙ field_at digits_in (f ∷ none ∷ none ∷ []) ((14, h) ∷ (14, 0) ∷ (14, 0) ∷ []) 0 (0, 0) rest (is_height h small, (zero, (zero, tt))) (lit< tt)

pub at_most_a_day : (n : ℕ) → IsInterval n → n ≤ 86_400_000
at_most_a_day n is = grind (arith, mod-eq_of_lt)

-- an interval is read back from its line
pub interval-back : (n : ℕ) → n ≤ 86_400_000 → digits_in (take 10 (drop 0 (line_with Interval (interval_content n)))) ≡ n
interval-back n is =
    let f = right 10 (fixed 3 (pos n)) in
    let (rest, shape) = content_first (joined (f ∷ [])) (row_label Interval) in
    let text = length-fixed 3 5 (pos n) (omega arith) (omega arith) (omega (arith, is)) (omega (arith, is)) in
    let sign = length-sign (is_negative (pos n)) in
    let own : IsField digits_in f (10, n) = (length-right 10 (fixed 3 (pos n)) (omega (arith, text, sign)), digits_in-right 10 (fixed 3 (pos n)) ∙ digits_in-fixed 3 (pos n) (omega arith) (omega (arith, is))) in
    ap (λ l. digits_in (take 10 (drop 0 l))) shape ∙ field_at digits_in (f ∷ []) ((10, n) ∷ []) 0 (0, 0) rest (own, tt) (lit< tt)

-- a coordinate fits its columns
pub coordinate-fits : (z : ℤ) → IsCoordinate z → Fits14 z
coordinate-fits z is = grind (arith, ints)

-- a row is at its index
pub placed : (n : ℕ) → n < row_count → row_place (row_at n) ≡ n
placed n less = is_equal (row_place (row_at n)) n (passes_at (λ i. row_place (row_at i) == i) row_count n refl less)

module _ (h : Shown) (n : ℕ) (less : n < row_count) where
  shape : lines_after h n ≡ row_lines h (row_at n) ++ lines_after h (suc n)
  shape = ap (flat_map (row_lines h)) (drop-cons all_rows n End less)

  pub line_next : has_line h (row_at n) ≡ true → lines_after h n ≡ row_line h (row_at n) ∷ lines_after h (suc n)
  line_next has = shape ∙ ap (λ b. (if b then row_line h (row_at n) ∷ [] else []) ++ lines_after h (suc n)) has

  pub line_none : has_line h (row_at n) ≡ false → lines_after h n ≡ lines_after h (suc n)
  line_none lacks = shape ∙ ap (λ b. (if b then row_line h (row_at n) ∷ [] else []) ++ lines_after h (suc n)) lacks

module _ (h : Shown) where
  -- the lines up to a row, and those from it on
  pub before_next : (n : ℕ) → n < row_count → lines_before h (suc n) ≡ lines_before h n ++ row_lines h (row_at n)
  before_next n less =
      let next : suc n ≡ n + 1 = omega arith in
      ap (lines_before h) next ∙ ap (flat_map (row_lines h)) (take_more all_rows n End less) ∙ flat_map-append (row_lines h) (take n all_rows) (row_at n ∷ [])
      ∙ ap (λ l. lines_before h n ++ l) (append-nil (row_lines h (row_at n)))

  pub split_at : (n : ℕ) → header_lines h ≡ lines_before h n ++ lines_after h n
  unfolding header_lines
  split_at n = sym (ap (flat_map (row_lines h)) (take-append-drop n all_rows)) ∙ flat_map-append (row_lines h) (take n all_rows) (drop n all_rows)

  -- the last row has a line
  pub some_after : (n : ℕ) → n < row_count → lines_after h n ≡ [] → ⊥
  some_after n less none =
      let front = take (row_place End) all_rows in
      let rows : drop n all_rows ≡ drop n front ++ End ∷ [] = drop-append-le n front (End ∷ []) (omega (arith, less)) in
      let parts : lines_after h n ≡ flat_map (row_lines h) (drop n front) ++ row_lines h End = ap (flat_map (row_lines h)) rows ∙ flat_map-append (row_lines h) (drop n front) (End ∷ []) in
      absurd (omega (arith, ap length (sym parts ∙ none), length-append (flat_map (row_lines h) (drop n front)) (row_lines h End)))

pub less_or : (P : Type 0) (i j : ℕ) → (i < j → P) → (j ≤ i → P) → P
less_or P i j less more = grind arith

-- ---- rows of types

pub types_shown : (s : System) (h : Shown) → IsShown h → 0 < length (planned_of s h.plan) → AreTypes s (planned_of s h.plan)
types_shown s h is some = record { listed = is.plan.listed s; apart = is.plan.apart s; some = some }

pub rows_when : (h : Shown) (r : HeaderRow) (b : Bool) → has_line h r ≡ b → row_lines h r ≡ (if b then row_line h r ∷ [] else [])
rows_when h r b e = ap (λ c. if c then row_line h r ∷ [] else []) e
