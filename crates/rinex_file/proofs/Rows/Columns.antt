-- The columns of signals in a row, of which those of the signals in a set are left from the line before.
use Rattle.rtcm_bits.proofs.SmallLaws.{get_or-same}
use Rattle.rinex_file.proofs.HeaderRows.Texts.{trimmed-blanks}
use Rattle.rinex_file.proofs.Rows.Cells.{none_fit, none_put, none_text, replaced}
use Rattle.rinex_file.proofs.Rows.Sizes.{length-signals}
use Rattle.rinex_file.proofs.Names.{max, pow_mono, nat_lt, take-add, bit_at, bit_not, leading_zeros, w64, All-replicate, All-set, All-take, length-map, get_or-drop, get_or-set_same, get_or-set_other, take-append-drop, take-take, bit_at-lt, bit_at_above, bit_at_and, bit_at_clear_other, bit_at_clear_same, bit_at_not, bit_at_set_other, bit_at_set_same, bit_and, bit_or, and_le_l, leading_length, one_shl, or_lt, common_steps, arith, ◌≡◌, ◌≢◌, ◌∙◌, sym, ap, ap₂, refl, subst, ℕ, zero, suc, ◌+◌, ◌*◌, ◌-◌, ◌<◌, ◌≤◌, ◌%◌, ◌^◌, Bool, true, false, List, [], ◌∷◌, ◌++◌, take, drop, length, replicate, get_or, append_assoc, slice_set, nat_eq, flat_map, All, length-drop, length-take-le, length-replicate, length-set, take-append-le, drop-append-le, drop-drop, drop-take, take_at, flat_map-append, map, drop_all, Cell, signal_values_at, SignalValues, no_signal_values, HaveRoom, trimmed, signal_text, most_signals, AreApart, HasColumns, IsBlankBut, values_at}
use Rattle.std.proofs.Math.Pow.{pow-lt}

-- ---- the columns of one signal are replaced

pub columns_put : (row text : List ℕ) (p : ℕ) {k : ℕ} (all : List SignalValues) (v : SignalValues) → 3 ≤ length row → k ≡ 64 → text ≡ signal_text v → All HaveRoom all → p < length all
    → drop 3 row ≡ flat_map signal_text all ++ 32 ∷ []
    → drop 3 (take (3 + 64 * p) row ++ (text ++ drop k (drop (3 + 64 * p) row))) ≡ flat_map signal_text (slice_set all p v) ++ 32 ∷ []
columns_put row text p {k} all v wide width is room less columns =
    let t = flat_map signal_text all in
    let n = 64 * p in
    let s = 3 + 64 * p in
    let size = length-signals all room in
    let a : drop 3 (take s row) ≡ take n t = drop-take 3 n row ∙ ap (take n) columns ∙ take-append-le n t (32 ∷ []) (omega (arith, size, less)) in
    let b : drop s row ≡ drop n t ++ 32 ∷ [] = sym (drop-drop n 3 row) ∙ ap (drop n) columns ∙ drop-append-le n t (32 ∷ []) (omega (arith, size, less)) in
    let far : 64 ≤ length (drop n t) = rw length-drop (omega (arith, size, less)) in
    grind (arith, common_steps, drop-append-le, replaced)

pub front_kept : (row rest : List ℕ) (n : ℕ) → 3 + n ≤ length row → take 3 (take (3 + n) row ++ rest) ≡ take 3 row
front_kept row rest n h = grind (arith, length-take-le, take-append-le, take-take)

-- ---- the values at an index after those at one were replaced

is_at : (p q : ℕ) → nat_eq q p ≡ true → q ≡ p
is_at p q same = grind (arith, same)

apart_at : (p q : ℕ) → nat_eq q p ≡ false → q ≢ p
apart_at p q other e = grind (arith, e, other)

set_same : (all : List SignalValues) (p q : ℕ) (v : SignalValues) → nat_eq q p ≡ true → p < length all → values_at (slice_set all p v) q ≡ v
set_same all p q v same less = let at = is_at p q same in ap (λ j. values_at (slice_set all p v) j) at ∙ get_or-set_same all p v no_signal_values less

set_other : (all : List SignalValues) (p q : ℕ) (v : SignalValues) → nat_eq q p ≡ false → values_at (slice_set all p v) q ≡ values_at all q
set_other all p q v other = get_or-set_other all p q v no_signal_values (λ e. grind (arith, e, other))

-- a cell's columns were written
pub value_put : {used own p : ℕ} {all now : List SignalValues} {row new : List ℕ} (v : SignalValues) → HaveRoom v → p < length all → slice_set all p v ≡ now
    → ((old : List SignalValues) → All HaveRoom old → p < length old → drop 3 row ≡ flat_map signal_text old ++ 32 ∷ [] → drop 3 new ≡ flat_map signal_text (slice_set old p v) ++ 32 ∷ [])
    → HasColumns used own all row → HasColumns used (bit_or own (1 * 2 ^ p % 2 ^ 64)) now new
value_put {used} {own} {p} {all} {now} {row} {new} v room less put columns h = record {
  shown = slice_set h.shown p v;
  size = length-set h.shown p v ∙ h.size;
  room = All-set HaveRoom h.shown p v room h.room;
  columns = columns h.shown h.room within h.columns;
  few = h.few;
  short = omega (arith, h.short, length-set all p v, ap length put);
  same = λ q covers. same q (nat_eq q p) refl covers;
  only = λ q out. only q (nat_eq q p) refl out;
} where
  within : p < length h.shown
  within = omega (arith, h.size, less, h.short)

  low : p < 64
  low = omega (arith, less, h.short)

  same : (q : ℕ) (b : Bool) → nat_eq q p ≡ b → bit_at used q ≤ bit_at (bit_or own (1 * 2 ^ p % 2 ^ 64)) q → values_at (slice_set h.shown p v) q ≡ values_at now q
  same q true at covers = set_same h.shown p q v at within ∙ sym (set_same all p q v at less) ∙ ap (λ l. values_at l q) put
  same q false at covers =
      set_other h.shown p q v at ∙ h.same q (subst (λ n. bit_at used q ≤ n) (bit_at_set_other w64 own p low q (apart_at p q at)) covers) ∙ sym (set_other all p q v at) ∙ ap (λ l. values_at l q) put

  only : (q : ℕ) (b : Bool) → nat_eq q p ≡ b → bit_at (bit_or own (1 * 2 ^ p % 2 ^ 64)) q ≡ 0 → values_at now q ≡ no_signal_values
  only q true at out =
      let is = is_at p q at in
      absurd (omega (arith, bit_at_set_same w64 own p low, subst (λ j. bit_at (bit_or own (1 * 2 ^ p % 2 ^ 64)) j ≡ 0) is out))
  only q false at out = ap (λ l. values_at l q) (sym put) ∙ set_other all p q v at ∙ h.only q (sym (bit_at_set_other w64 own p low q (apart_at p q at)) ∙ out)

-- ---- columns that are left from the line before

abbrev pub without : ℕ → ℕ → ℕ
without set p = bit_and set (bit_not w64 (1 * 2 ^ p % 2 ^ 64))

none_above : (set q : ℕ) → set < 2 ^ most_signals → most_signals ≤ q → bit_at set q ≡ 0
none_above set q few from = bit_at_above set most_signals q few from

pub is_signal : (set p : ℕ) → set < 2 ^ most_signals → bit_at set p ≡ 1 → p < most_signals
is_signal set p few is = grind (arith, none_above)

without_le : (set p q : ℕ) → bit_at (without set p) q ≤ bit_at set q
without_le set p q = omega (arith, bit_at_and set (bit_not w64 (1 * 2 ^ p % 2 ^ 64)) q)

pub apart_without : (left p own : ℕ) → AreApart left own → AreApart (without left p) own
apart_without left p own h q is = h q (omega (arith, without_le left p q, bit_at-lt left q, is))

pub few_without : (left p : ℕ) → left < 2 ^ most_signals → without left p < 2 ^ most_signals
few_without left p few = omega (arith, few, and_le_l left (bit_not w64 (1 * 2 ^ p % 2 ^ 64)))

pub less_without : (left p : ℕ) → p < 64 → bit_at left p ≡ 1 → without left p < left
less_without left p low is = by (nat_lt (without left p) left) refl where
  by : (b : Bool) → nat_lt (without left p) left ≡ b → without left p < left
  by true x = grind (arith, x)
  by false x =
      let least : left ≤ without left p = grind (arith, x) in
      let same : without left p ≡ left = omega (arith, and_le_l left (bit_not w64 (1 * 2 ^ p % 2 ^ 64)), least) in
      absurd (omega (arith, bit_at_clear_same w64 left p low, subst (λ n. bit_at n p ≡ 1) (sym same) is))

-- those of a signal were blanked
pub value_blanked : {left own p : ℕ} {all : List SignalValues} {row new : List ℕ} → bit_at left p ≡ 1 → AreApart left own
    → ((old : List SignalValues) → All HaveRoom old → p < length old → drop 3 row ≡ flat_map signal_text old ++ 32 ∷ [] → drop 3 new ≡ flat_map signal_text (slice_set old p no_signal_values) ++ 32 ∷ [])
    → HasColumns left own all row → HasColumns (without left p) own all new
value_blanked {left} {own} {p} {all} {row} {new} is apart columns h = record {
  shown = slice_set h.shown p no_signal_values;
  size = length-set h.shown p no_signal_values ∙ h.size;
  room = All-set HaveRoom h.shown p no_signal_values none_fit h.room;
  columns = columns h.shown h.room (omega (arith, h.size, low)) h.columns;
  few = few_without left p h.few;
  short = h.short;
  same = λ q covers. same q (nat_eq q p) refl covers;
  only = h.only;
} where
  low : p < most_signals
  low = is_signal left p h.few is

  same : (q : ℕ) (b : Bool) → nat_eq q p ≡ b → bit_at (without left p) q ≤ bit_at own q → values_at (slice_set h.shown p no_signal_values) q ≡ values_at all q
  same q true at covers = grind (arith, common_steps, is_at, set_same)
  same q false at covers = set_other h.shown p q no_signal_values at ∙ h.same q (still (nat_lt q most_signals) refl) where
    still : (b : Bool) → nat_lt q most_signals ≡ b → bit_at left q ≤ bit_at own q
    still true x = let few : q < most_signals = grind (arith, x) in subst (λ n. n ≤ bit_at own q) (bit_at_clear_other w64 left p (omega (arith, low)) q (omega (arith, few)) (apart_at p q at)) covers
    still false x = let from : most_signals ≤ q = grind (arith, x) in omega (arith, none_above left q h.few from)

-- the same columns have these values, but for the signals in `used` and not in `own`
recast : {used own used' own' : ℕ} {all all' : List SignalValues} {row : List ℕ} (h : HasColumns used own all row) → used' < 2 ^ most_signals → length all' ≤ most_signals
    → ((p : ℕ) → bit_at used' p ≤ bit_at own' p → values_at h.shown p ≡ values_at all' p) → ((p : ℕ) → bit_at own' p ≡ 0 → values_at all' p ≡ no_signal_values) → HasColumns used' own' all' row
recast h few short same only = record { shown = h.shown; size = h.size; room = h.room; columns = h.columns; few = few; short = short; same = same; only = only }

-- ---- from the cells that are written to the columns that are left

over : (used own q : ℕ) → own < 2 ^ most_signals → q < most_signals → bit_at (bit_and used (bit_not w64 own)) q + bit_at own q ≡ max (bit_at used q) (bit_at own q)
over used own q few low = grind (arith, common_steps, bit_at_and, bit_at-lt, bit_at_not w64 own q (omega (arith, few)) (omega (arith, low)))

pub left_over : {used own : ℕ} {all : List SignalValues} {row : List ℕ} → own < 2 ^ most_signals → HasColumns used own all row → HasColumns (bit_and used (bit_not w64 own)) own all row
left_over few h = grind (arith, recast, and_le_l, over, bit_at-lt, none_above)

pub apart_over : (used own : ℕ) → used < 2 ^ most_signals → own < 2 ^ most_signals → AreApart (bit_and used (bit_not w64 own)) own
apart_over used own fits few = grind (arith, is_signal, and_le_l, over, bit_at-lt)

-- ---- the columns of a line

-- values after some others are none
abbrev Fills : List SignalValues → List SignalValues → Type 0
Fills some all = (k : ℕ) × (all ≡ some ++ replicate k no_signal_values)

fills : (some all : List SignalValues) → length some ≤ length all → ((p : ℕ) → values_at all p ≡ values_at some p) → Fills some all
fills [] [] less same = (0, refl)
fills [] (v ∷ all) less same = let (k, is) = fills [] all (omega arith) (λ p. same (suc p)) in (suc k, ap₂ (λ x l. x ∷ l) (same 0) is)
fills (w ∷ some) [] less same = absurd (omega (arith, less))
fills (w ∷ some) (v ∷ all) less same = let (k, is) = fills some all (omega (arith, less)) (λ p. same (suc p)) in (k, ap₂ (λ x l. x ∷ l) (same 0) is)

text_filled : (some all : List SignalValues) → Fills some all → (k : ℕ) × (flat_map signal_text all ≡ flat_map signal_text some ++ replicate k 32)
text_filled some all (k, is) = (64 * k, ap (flat_map signal_text) is ∙ flat_map-append signal_text some (replicate k no_signal_values) ∙ ap (λ t. flat_map signal_text some ++ t) (none_text k))

trimmed_filled : (front : List ℕ) (some all : List SignalValues) → Fills some all → trimmed (front ++ flat_map signal_text all) ≡ trimmed (front ++ flat_map signal_text some)
trimmed_filled front some all f = grind (arith, common_steps, (text_filled some all f).0, (text_filled some all f).1, trimmed-blanks)

-- nothing is shown from the number m on
module _ {own m : ℕ} {all : List SignalValues} {row : List ℕ} (h : HasColumns 0 own all row) (few : own < 2 ^ m) (most : m ≤ most_signals) where
  after : Fills (take m h.shown) h.shown
  after = grind (arith, common_steps, take-append-drop, fills [] (drop m h.shown) (omega arith) (λ p. get_or-drop m h.shown p no_signal_values ∙ h.same (m + p) (omega arith) ∙ h.only (m + p) (bit_at_above own m (m + p) few (omega arith))))

  abbrev first : List ℕ
  first = flat_map signal_text (take m h.shown)

  first_size : length first ≡ 64 * m
  first_size = length-signals (take m h.shown) (All-take HaveRoom m h.shown h.room) ∙ ap (λ n. 64 * n) (length-take-le m h.shown (omega (arith, h.size, most)))

  columns_are : (k : ℕ) × (drop 3 row ≡ first ++ (replicate k 32 ++ 32 ∷ []))
  columns_are = let (k, is) = text_filled (take m h.shown) h.shown after in (k, h.columns ∙ ap (λ t. t ++ 32 ∷ []) is ∙ append_assoc first (replicate k 32) (32 ∷ []))

  pub line_shown : (front : List ℕ) → take 3 row ≡ front → trimmed (take (3 + 64 * m) row) ≡ trimmed (front ++ flat_map signal_text all)
  line_shown front is =
      let (k, columns) = columns_are in
      ap trimmed (take-add 3 (64 * m) row ∙ ap₂ (λ a b. a ++ b) is (ap (take (64 * m)) columns ∙ take_at first (replicate k 32 ++ 32 ∷ []) (64 * m) first_size))
      ∙ sym (trimmed_filled front (take m h.shown) h.shown after) ∙ trimmed_filled front all h.shown (fills all h.shown (omega (arith, h.size, h.short)) (λ p. h.same p (omega arith)))

  pub blank_after : get_or row (3 + 64 * m) 0 ≡ 32
  blank_after = grind (arith, common_steps, columns_are, first_size, get_or-drop)

  -- the row before the next line
  pub next_blank : own < 2 ^ most_signals → IsBlankBut own row
  next_blank fits = recast h fits (omega arith) (λ p covers. h.same p (omega arith) ∙ h.only p (omega (arith, covers))) (λ p out. refl)

-- before any cell
pub no_cells : {used : ℕ} {row : List ℕ} (cells : List Cell) (id : ℕ) (signals : List ℕ) → length signals ≤ most_signals → IsBlankBut used row → HasColumns used 0 (map (signal_values_at (drop (length cells) cells) id) signals) row
no_cells cells id signals short h = grind (arith, recast, length-map, drop_all, none_put, get_or-same)

pub few_with : (own p : ℕ) → own < 2 ^ most_signals → p < most_signals → bit_or own (1 * 2 ^ p % 2 ^ 64) < 2 ^ most_signals
few_with own p few low = or_lt most_signals own (1 * 2 ^ p % 2 ^ 64) few (subst (λ n. n < 2 ^ most_signals) (sym (one_shl p 64 (omega (arith, low)))) (pow-lt low))

-- the number after the last signal of a set
pub places_are : (own : ℕ) → own < 2 ^ most_signals → (own < 2 ^ (64 - leading_zeros w64 own)) × (64 - leading_zeros w64 own ≤ most_signals)
places_are own few = by (leading_length 64 own (omega (arith, few))) where
  short : (m : ℕ) → 2 ^ m ≤ 2 * own + 1 → (b : Bool) → nat_lt most_signals m ≡ b → m ≤ most_signals
  short m above false x = grind (arith, x)
  short m above true x = let far : most_signals + 1 ≤ m = grind (arith, x) in absurd (omega (arith, few, above, pow_mono far))

  by : (m : ℕ) × (leading_zeros w64 own + m ≡ 64) × (own < 2 ^ m) × (2 ^ m ≤ 2 * own + 1) → (own < 2 ^ (64 - leading_zeros w64 own)) × (64 - leading_zeros w64 own ≤ most_signals)
  by (m, sum, below, above) =
      let is : 64 - leading_zeros w64 own ≡ m = omega (arith, sum) in
      (subst (λ k. own < 2 ^ k) (sym is) below, subst (λ k. k ≤ most_signals) (sym is) (short m above (nat_lt most_signals m) refl))

-- a row without a line
pub blank_row : IsBlankBut 0 (replicate (3 + (64 * most_signals + 1)) 32)
blank_row = record {
  shown = replicate most_signals no_signal_values;
  size = length-replicate most_signals no_signal_values;
  room = All-replicate HaveRoom most_signals no_signal_values none_fit;
  columns = ap (λ t. t ++ 32 ∷ []) (sym (none_text most_signals));
  few = omega arith;
  short = omega arith;
  same = λ p covers. get_or-same no_signal_values most_signals p;
  only = λ p out. refl;
}

-- only the first columns changed
pub same_columns : {used own : ℕ} {all : List SignalValues} {row new : List ℕ} → drop 3 new ≡ drop 3 row → HasColumns used own all row → HasColumns used own all new
same_columns is h = grind arith

-- the line feed is replaced
pub feed_replaced : (row : List ℕ) (n : ℕ) → get_or row n 0 ≡ 32 → slice_set (slice_set row n 10) n 32 ≡ row
feed_replaced [] n is = refl
feed_replaced (x ∷ row) zero is = ap (λ y. y ∷ row) (sym is)
feed_replaced (x ∷ row) (suc n) is = ap (λ l. x ∷ l) (feed_replaced row n is)
