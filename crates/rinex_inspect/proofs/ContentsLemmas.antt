-- The contents of the table of epochs, and equal contents.
use Rattle.rinex_inspect.proofs.Names.{common_steps, ◌≡◌, ◌∙◌, ◌+◌, ◌*◌, ◌/◌, ◌%◌, ◌^◌, ◌<◌, ◌≤◌, ◌++◌, ◌∷◌, [], ℕ, Bool, true, false, zero, suc, List, cond, get_or, length, map, refl, ap, ap₂, sym, subst, arith, add-one, append_assoc, append-nil, is_some, codes, decimal, All, filter, flat_map, nat_lt, count_by, sum_by, length-append, length-map, All-append, All-filter, All-head, All-nil, All-tail, count_by-le-length, sum_by-cons, div-lt_iff_lt-mul, mod-lt, few_below, below, PlanValue, System, Satellite, letter, satellites, line, most_signals, systems, AreFine, rows_in, most_lines, AreSatelliteRows, AreSignalValues, IsPlan, IsSatelliteRow, planned_in, SatelliteRow, SignalValues, Stamped, no_signal_values, present_line, signal_line, Contents, code_at, contents_of, presence_words, satellite_word, tally_words, lost_in, period_line, period_lines, satellite_line, tally_line, texts_below, all_rows, has_values, is_half, is_lost, is_row_of, satellite_at, strength_of, tally_of, total, values_in, Period, Table, Presence, Tally, IsPrintable, IsSmallTally, all_lines, line_at, line_count, IsTableOf, capped_tally, contents_in, ints, flat_map-cons, div-mul-add, mod-mul-add, Lines}
use Rattle.rinex_inspect.proofs.TallyLemmas.{tally_is}
use Rattle.rinex_inspect.proofs.QualityTexts.{few_satellites}
use Rattle.rinex_inspect.proofs.SumLemmas.{one_small_of, sum_add, sum_bound, sum_mono, sum_same, sum_suc, texts_more, texts_same}

-- ---- no tally is great

-- lines of a file with this plan
abbrev pub AreRows : PlanValue → List SatelliteRow → Type 0
AreRows p rows = All (IsSatelliteRow (planned_in p)) rows

strong : (e : SignalValues) → AreSignalValues e → strength_of e.s ≤ 99999
strong e fits = grind (arith, common_steps, ints)

strong_at : (es : List SignalValues) (k : ℕ) → All AreSignalValues es → strength_of (get_or es k no_signal_values).s ≤ 99999
strong_at [] k all = omega arith
strong_at (e ∷ es) zero all = strong e (All-head AreSignalValues e es all)
strong_at (e ∷ es) (suc k) all = strong_at es k (All-tail AreSignalValues e es all)

module _ (p : PlanValue) (s : Satellite) (k : ℕ) where
  strengths : (rows : List SatelliteRow) → AreRows p rows → sum_by (λ e. strength_of e.s) (map (values_in k) (filter (is_row_of s) rows)) ≤ 99999 * length rows
  strengths [] all = grind (arith, common_steps)
  strengths (r ∷ rows) all = grind (arith, common_steps, All-tail, strong_at, All-head, sum_by-cons, strengths rows (All-tail (IsSatelliteRow (planned_in p)) r rows all))

length_rows : (es : List Stamped) → length (all_rows es) ≡ rows_in es
length_rows [] = refl
length_rows (e ∷ es) = ap length (flat_map-cons (λ (x : Stamped). x.rows) e es) ∙ length-append e.rows (all_rows es) ∙ ap (λ (n : ℕ). length e.rows + n) (length_rows es) ∙ sym (sum_by-cons (λ (x : Stamped). length x.rows) e es)

fine_rows : (p : PlanValue) (es : List Stamped) → All (λ e. AreSatelliteRows (planned_in p) e.rows) es → AreRows p (all_rows es)
fine_rows p [] all = All-nil (IsSatelliteRow (planned_in p))
fine_rows p (e ∷ es) all =
    subst (AreRows p) (sym (flat_map-cons (λ (x : Stamped). x.rows) e es))
    (All-append (IsSatelliteRow (planned_in p)) e.rows (all_rows es) (All-head (λ (x : Stamped). AreSatelliteRows (planned_in p) x.rows) e es all).each (fine_rows p es (All-tail (λ (x : Stamped). AreSatelliteRows (planned_in p) x.rows) e es all)))

-- lines that aren't more than those of a file
pub record AreFew (p : PlanValue) (es : List Stamped) : Type 0 where
  pub rows : AreRows p (all_rows es)
  pub few : length (all_rows es) < most_lines

few_filter : (q : Stamped → Bool) (es : List Stamped) → rows_in (filter q es) ≤ rows_in es
few_filter q [] = omega arith
few_filter q (e ∷ es) = grind (arith, common_steps, sum_by-cons, few_filter q es)

-- each epoch has a line of its own
fewer : (es : List Stamped) → length es + rows_in es ≤ most_lines → rows_in es < most_lines
fewer es few = grind (arith, common_steps)

pub few_of : (p : PlanValue) (q : Stamped → Bool) (es : List Stamped) → AreFine p es → AreFew p (filter q es)
few_of p q es fine = record {
  rows = fine_rows p (filter q es) (All-filter q (λ (x : Stamped). AreSatelliteRows (planned_in p) x.rows) es fine.rows);
  few = omega (arith, length_rows (filter q es), few_filter q es, fewer es fine.few);
}

-- a line is one of at most one satellite of a system
one_satellite : (s : System) (r : SatelliteRow) (n : ℕ) → (sum_by (λ i. cond (is_row_of (satellite_at s i) r) 1 0) (below n) ≤ 1) × (n < r.row.satellite → sum_by (λ i. cond (is_row_of (satellite_at s i) r) 1 0) (below n) ≡ 0)
one_satellite s r zero = (omega arith, λ less. refl)
one_satellite s r (suc n) = grind (arith, common_steps, sum_suc, one_satellite s r n)

-- the lines of all satellites of a system
lines_of : (s : System) (n : ℕ) (rows : List SatelliteRow) → sum_by (λ i. length (filter (is_row_of (satellite_at s i)) rows)) (below n) ≤ length rows
lines_of s zero [] = omega arith
lines_of s (suc n) [] = omega (arith, lines_of s n [], sum_suc (λ (i : ℕ). 0) n)
lines_of s n (r ∷ rows) =
    let one = (one_satellite s r n).0 in
    let sum = sum_add (λ (i : ℕ). cond (is_row_of (satellite_at s i) r) 1 0) (λ (i : ℕ). length (filter (is_row_of (satellite_at s i)) rows)) n in
    let split = sum_same (λ (i : ℕ). length (filter (is_row_of (satellite_at s i)) (r ∷ rows))) (λ (i : ℕ). cond (is_row_of (satellite_at s i) r) 1 0 + length (filter (is_row_of (satellite_at s i)) rows)) n
    (λ i fits. by (is_row_of (satellite_at s i) r) (filter (is_row_of (satellite_at s i)) rows)) in
    omega (arith, lines_of s n rows, one, sum, split) where
      by : (b : Bool) (kept : List SatelliteRow) → length (cond b (r ∷ kept) kept) ≡ cond b 1 0 + length kept
      by true kept = omega arith
      by false kept = omega arith

module _ (p : PlanValue) (s : System) (k : ℕ) (es : List Stamped) (are : AreFew p es) where
  -- of each line at most one satellite has a value
  values_few : (q : SignalValues → Bool) → sum_by (λ i. count_by q (map (values_in k) (filter (is_row_of (satellite_at s i)) (all_rows es)))) (below (satellites s)) < 2 ^ 32
  values_few q =
      let own : ℕ → List SatelliteRow = λ i. filter (is_row_of (satellite_at s i)) (all_rows es) in
      let less = sum_mono (λ (i : ℕ). count_by q (map (values_in k) (own i))) (λ (i : ℕ). length (own i)) (satellites s)
      (λ i fits. omega (arith, count_by-le-length q (map (values_in k) (own i)), length-map (own i) (values_in k))) in
      omega (arith, less, lines_of s (satellites s) (all_rows es), are.few)

  pub totals_few : IsSmallTally (total (λ i. tally_of (satellite_at s i) k es) (satellites s))
  totals_few = record {
    c = values_few (λ e. is_some e.c);
    l = values_few (λ e. is_some e.l);
    d = values_few (λ e. is_some e.d);
    s = values_few (λ e. is_some e.s);
    lost = values_few is_lost;
    half = values_few is_half;
    strength =
        let sum = sum_bound (λ (i : ℕ). (tally_of (satellite_at s i) k es).strength) (satellites s) (2 ^ 49) (λ i fits. omega (arith, strengths p (satellite_at s i) k (all_rows es) are.rows, are.few)) in
        omega (arith, sum, few_satellites s);
  }

pub capped_same : (t : Tally) → IsSmallTally t → capped_tally t ≡ t
capped_same t is = tally_is (omega (arith, is.c)) (omega (arith, is.l)) (omega (arith, is.d)) (omega (arith, is.s)) (omega (arith, is.lost)) (omega (arith, is.half)) (omega (arith, is.strength))

-- ---- the table of epochs

-- the same contents
pub record AreSame (a b : Contents) : Type 0 where
  pub tallies : (s : System) (i k : ℕ) → i < satellites s → k < most_signals → a.tallies s i k ≡ b.tallies s i k
  pub presences : (s : System) (i : ℕ) → i < satellites s → a.presences s i ≡ b.presences s i

pub table_contents : (p : PlanValue) (t : Table) (es : List Stamped) → AreFew p es → IsTableOf t es → AreSame (contents_in t) (contents_of es)
table_contents p t es few is = record {
  tallies = λ s i k less fits. (is.each s i less).signals k fits ∙ capped_same (tally_of (satellite_at s i) k es) (one_small_of (λ (i : ℕ). tally_of (satellite_at s i) k es) i (satellites s) less (totals_few p s k es few));
  presences = λ s i less. (is.each s i less).presence;
}

pub few_planned : (p : PlanValue) → IsPlan p → (s : System) → planned_in p s ≤ most_signals
few_planned p is s = grind (arith, common_steps, few_below)

-- ---- equal contents have equal lines

-- the line of a signal, and of a satellite, in their numbers
abbrev signal_text : PlanValue → System → ℕ → ℕ → Tally → List ℕ
signal_text plan s k n t = line (codes "signal" ∷ (letter s ∷ []) ∷ code_at plan s k ∷ codes "satellites" ∷ decimal n ∷ tally_words t)

abbrev satellite_text : System → ℕ → Presence → ℕ → List ℕ
satellite_text s i p n = cond (nat_lt 0 p.epochs) (line (codes "satellite" ∷ satellite_word s i ∷ (presence_words p ++ codes "lost" ∷ decimal n ∷ []))) []

some_factor : (m n i : ℕ) → i < m * n → 0 < n
some_factor m n i less = grind (arith, common_steps)

module _ (plan : PlanValue) (a b : Contents) (same : AreSame a b) (few : (s : System) → planned_in plan s ≤ most_signals) where
  total_same : (s : System) (k : ℕ) → k < most_signals → total (λ i. a.tallies s i k) (satellites s) ≡ total (λ i. b.tallies s i k) (satellites s)
  total_same s k fits = grind (arith, common_steps, tally_is, sum_same)

  signal_same : (s : System) (k : ℕ) → k < planned_in plan s → signal_line plan a s k ≡ signal_line plan b s k
  unfolding signal_line
  signal_same s k less =
      let fits : k < most_signals = omega (arith, less, few s) in
      let number : count_by (λ i. has_values (a.tallies s i k)) (below (satellites s)) ≡ count_by (λ i. has_values (b.tallies s i k)) (below (satellites s)) = sum_same (λ (i : ℕ). cond (has_values (a.tallies s i k)) 1 0) (λ (i : ℕ). cond (has_values (b.tallies s i k)) 1 0) (satellites s) (λ i at. ap (λ (t : Tally). cond (has_values t) 1 0) (same.tallies s i k at fits)) in
      ap₂ (λ (n : ℕ) (t : Tally). signal_text plan s k n t) number (total_same s k fits)

  lost_same : (s : System) (i : ℕ) → i < satellites s → lost_in plan a s i ≡ lost_in plan b s i
  lost_same s i less = sum_same (λ (k : ℕ). (a.tallies s i k).lost) (λ (k : ℕ). (b.tallies s i k).lost) (planned_in plan s) (λ k at. ap (λ (t : Tally). t.lost) (same.tallies s i k less (omega (arith, at, few s))))

  satellite_same : (s : System) (i : ℕ) → i < satellites s → satellite_line plan a s i ≡ satellite_line plan b s i
  unfolding present_line
  satellite_same s i less = ap₂ (λ (p : Presence) (n : ℕ). satellite_text s i p n) (same.presences s i less) (lost_same s i less)

  period_same : (start : ℕ) (s : System) (i k : ℕ) → i < satellites s → k < planned_in plan s → period_line plan start a s i k ≡ period_line plan start b s i k
  period_same start s i k less fits = ap (λ (t : Tally). cond (has_values t) (tally_line plan start t s i k) []) (same.tallies s i k less (omega (arith, fits, few s)))

  line_same : (lines : Lines) (s : System) (i : ℕ) → i < line_count lines plan s → line_at lines plan a s i ≡ line_at lines plan b s i
  line_same lines s i less = grind (arith, common_steps, signal_same, satellite_same, some_factor, period_same, div-lt_iff_lt-mul, mod-lt)

  pub lines_same : (lines : Lines) → all_lines lines plan a ≡ all_lines lines plan b
  lines_same lines = ap (λ (f : System → List ℕ). flat_map f systems) (λ i s. texts_same (line_at lines plan a s) (line_at lines plan b s) (line_count lines plan s) (λ k less. line_same lines s k less) i)

pub printable : (p : PlanValue) (t : Table) (es : List Stamped) → IsPlan p → AreFew p es → IsTableOf t es → IsPrintable t p
printable p t es plan few is =
    let same = table_contents p t es few is in
    let totals : (s : System) (k : ℕ) → k < most_signals → IsSmallTally (total (λ i. (contents_in t).tallies s i k) (satellites s)) =
    λ s k fits. subst IsSmallTally (sym (total_same p (contents_in t) (contents_of es) same (few_planned p plan) s k fits)) (totals_few p s k es few) in
    record {
      places = is.size;
      each = λ s i less. record {
        size = (is.each s i less).size;
        each = λ k fits. one_small_of (λ (i : ℕ). (contents_in t).tallies s i k) i (satellites s) less (totals s k fits);
      };
      totals = totals;
      few = few_planned p plan;
    }

-- ---- the lines of a period, by satellite and by signal

texts_split : (f : ℕ → List ℕ) (m n : ℕ) → texts_below f (m + n) ≡ texts_below f m ++ texts_below (λ k. f (m + k)) n
texts_split f m zero = ap (texts_below f) {x = m + 0} {y = m} (omega arith) ∙ sym (append-nil (texts_below f m))
texts_split f m (suc n) =
    ap (texts_below f) {x = m + suc n} {y = (m + n) + 1} (omega arith) ∙ texts_more f (m + n) ∙ ap (λ (l : List ℕ). l ++ f (m + n)) (texts_split f m n)
    ∙ append_assoc (texts_below f m) (texts_below (λ k. f (m + k)) n) (f (m + n)) ∙ ap (λ (l : List ℕ). texts_below f m ++ l) (sym (texts_more (λ k. f (m + k)) n) ∙ ap (texts_below (λ k. f (m + k))) (add-one n))

in_grid : (f : ℕ → ℕ → List ℕ) (m n : ℕ) → texts_below (λ i. f (i / n) (i % n)) (m * n) ≡ texts_below (λ i. texts_below (f i) n) m
in_grid f zero n = ap (texts_below (λ i. f (i / n) (i % n))) {x = 0 * n} {y = 0} (omega arith)
in_grid f (suc m) n =
    ap (texts_below (λ i. f (i / n) (i % n))) {x = suc m * n} {y = m * n + n} (grind arith) ∙ texts_split (λ i. f (i / n) (i % n)) (m * n) n
    ∙ ap₂ (λ (x y : List ℕ). x ++ y) (in_grid f m n) (texts_same (λ k. f ((m * n + k) / n) ((m * n + k) % n)) (f m) n (λ k less. ap₂ f (div-mul-add m n k less) (mod-mul-add m n k less)))
    ∙ sym (texts_more (λ i. texts_below (f i) n) m) ∙ ap (texts_below (λ i. texts_below (f i) n)) (add-one m)

pub period_is : (plan : PlanValue) (start : ℕ) (has : Contents) → all_lines (Period start) plan has ≡ period_lines plan start has
period_is plan start has = ap (λ (f : System → List ℕ). flat_map f systems) (λ i s. in_grid (period_line plan start has s) (satellites s) (planned_in plan s) i)

-- ---- no epoch

none_below : (n : ℕ) → texts_below (λ i. []) n ≡ []
none_below zero = refl
none_below (suc n) = ap (texts_below (λ i. [])) (sym (add-one n)) ∙ texts_more (λ i. []) n ∙ append-nil (texts_below (λ i. []) n) ∙ none_below n

pub none_in_period : (plan : PlanValue) (start : ℕ) → period_lines plan start (contents_of []) ≡ []
none_in_period plan start = ap (λ (f : System → List ℕ). flat_map f systems) {x = λ s. texts_below (λ i. texts_below (period_line plan start (contents_of []) s i) (planned_in plan s)) (satellites s)} {y = λ s. []} (λ j s. both s j) where
  both : (s : System) → texts_below (λ i. texts_below (period_line plan start (contents_of []) s i) (planned_in plan s)) (satellites s) ≡ []
  both s = texts_same (λ i. texts_below (period_line plan start (contents_of []) s i) (planned_in plan s)) (λ i. []) (satellites s) (λ i less. none_below (planned_in plan s)) ∙ none_below (satellites s)
