-- The gaps and the missing places of epochs, with one epoch more, and of a whole file.
use Rattle.rinex_inspect.proofs.Names.{IsStrictlyIncreasing, zero-add, div-le_self, div-mul-le_self, le-div_iff_mul-le, IsCompleteness, all_gaps, all_placed, early, ends_in, first_of, gap_between, gap_line, gaps_before, gaps_from, indexes_of, intervals_to, number_among, origin_in, origin_of, placed, start, window_size, all_gaps_if, gaps_if, size_of, times_in, size_in, end_line, with_words, moment_words, CheckOptions, complete_but, end_gap_if, end_missing_if, line_but, CountsMissing, IsEndOutput, codes, decimal, Counts, AreCounts, FileValue, lt-ltb, IsFileValue, check_line, complete_if, complete_line, times_if, ltb-false, ltb-true, Rise, first_with, gap_with, gaps_to_end, last_with, missing_before, missing_between, missing_from, missing_if, missing_to_end, missing_with, origin_with, Completeness, Placed, Window, ◌≡◌, ◌∙◌, ◌+◌, ◌-◌, ◌<◌, ◌≤◌, ◌∷◌, ◌++◌, [], ap, ap₂, append-nil, append_assoc, arith, refl, subst, sym, ℕ, List, Bool, Option, Some, None, cond, map, map-append, AreTimes, AreTimesOrNone, EpochTimes, IfSome, ◌/◌, suc, CountsWhatIsThere, common_steps}
use Rattle.rinex_inspect.proofs.CompleteLemmas.{Covered, covered_more, none_covered}
use Rattle.rinex_inspect.specs.Gaps.{capped, index_of}

-- ---- one more

-- the last of these, or else the one before them
abbrev last_placed : Placed → List Placed → Placed
last_placed p [] = p
last_placed p (q ∷ qs) = last_placed q qs

gaps_split : (p : Placed) (qs rs : List Placed) → gaps_from p (qs ++ rs) ≡ gaps_from p qs ++ gaps_from (last_placed p qs) rs
gaps_split p [] rs = refl
gaps_split p (q ∷ qs) rs = ap (λ l. gap_between p q ++ l) (gaps_split q qs rs) ∙ sym (append_assoc (gap_between p q) (gaps_from q qs) (gaps_from (last_placed q qs) rs))

missing_split : (p : Placed) (qs rs : List Placed) → missing_from p (qs ++ rs) ≡ missing_from p qs + missing_from (last_placed p qs) rs
missing_split p [] rs = omega arith
missing_split p (q ∷ qs) rs = omega (arith, missing_split q qs rs)

last_is : (p : Placed) (qs : List Placed) (q : Placed) → last_placed p (qs ++ q ∷ []) ≡ q
last_is p [] q = refl
last_is p (r ∷ qs) q = last_is r qs q

module _ (g : Completeness) where
  -- the last epoch, from the times of the first and the last one
  last_of : (ts : List ℕ) (before : Option EpochTimes) (o : ℕ) → AreTimesOrNone ts before → last_placed (start o) (map (placed g o) ts) ≡ last_with g o before
  last_of ts None o are = grind (arith, common_steps)
  last_of ts (Some t) o are = grind (arith, common_steps, last_is)

  first_is : (ts : List ℕ) (before : Option EpochTimes) (time : ℕ) → AreTimesOrNone ts before → first_of (ts ++ time ∷ []) ≡ first_with before time
  first_is ts None time are = ap (λ l. first_of (l ++ time ∷ [])) are
  first_is ts (Some t) time are = ap (λ l. first_of (l ++ time ∷ [])) are.first.1

  -- the gaps from any origin, if it is that of a file with these times
  gaps_at : (ts : List ℕ) (before : Option EpochTimes) (time : ℕ) → AreTimesOrNone ts before
      → gaps_from (start (origin_with g before time)) (map (placed g (origin_with g before time)) ts) ≡ gaps_before g ts
  gaps_at ts None time are = rw are refl
  gaps_at ts (Some t) time are = ap (λ (n : ℕ). gaps_from (start (origin_in g.window n)) (map (placed g (origin_in g.window n)) ts)) (sym (ap first_of are.first.1))

  missing_at : (ts : List ℕ) (before : Option EpochTimes) (time : ℕ) → AreTimesOrNone ts before
      → missing_from (start (origin_with g before time)) (map (placed g (origin_with g before time)) ts) ≡ missing_before g ts
  missing_at ts None time are = rw are refl
  missing_at ts (Some t) time are = ap (λ (n : ℕ). missing_from (start (origin_in g.window n)) (map (placed g (origin_in g.window n)) ts)) (sym (ap first_of are.first.1))

-- no epoch has no gap
pub none_printed : (complete : Option Completeness) → gaps_if complete [] ≡ []
none_printed None = refl
none_printed (Some g) = refl

pub none_missed : (complete : Option Completeness) → 0 ≡ missing_if complete []
none_missed None = refl
none_missed (Some g) = refl

pub gaps_next : (complete : Option Completeness) (ts : List ℕ) (before : Option EpochTimes) (time : ℕ) → AreTimesOrNone ts before
    → gaps_if complete (ts ++ time ∷ []) ≡ gaps_if complete ts ++ gap_with complete before time
gaps_next None ts before time are = refl
gaps_next (Some g) ts before time are = grind (arith, common_steps, first_is, gaps_split, gaps_at, append-nil, last_of)

pub missing_next : (complete : Option Completeness) (ts : List ℕ) (before : Option EpochTimes) (time : ℕ) → AreTimesOrNone ts before
    → missing_if complete (ts ++ time ∷ []) ≡ missing_if complete ts + missing_with complete before time
missing_next None ts before time are = refl
missing_next (Some g) ts before time are = grind (arith, common_steps, last_of, first_is, missing_split, missing_at)

-- ---- times that rise

pub rise_front : (u : ℕ) (ts more : List ℕ) → Rise u (ts ++ more) → Rise u ts
rise_front u [] more h = tt
rise_front u (t ∷ ts) more h = (h.0, rise_front t ts more h.1)

pub rises : (u : ℕ) (ts : List ℕ) → IsStrictlyIncreasing (u ∷ ts) → Rise u ts
rises u [] h = tt
rises u (t ∷ ts) h = (let first = h 0 (omega arith) in omega (arith, first), rises t ts (λ k fits. let next = h (suc k) (omega (arith, fits)) in grind (arith, next)))

pub rises_from : (ts : List ℕ) → IsStrictlyIncreasing ts → Rise 0 ts
rises_from [] h = tt
rises_from (t ∷ ts) h = (omega arith, rises t ts h)

pub div_mono : (a b k : ℕ) → 0 < k → a ≤ b → a / k ≤ b / k
div_mono a b k some h = let least = div-mul-le_self a k in (le-div_iff_mul-le {k = k} {x = a / k} {y = b} some).1 (omega (arith, least, h))

module _ (g : Completeness) (is : IsCompleteness g) (o : ℕ) where
  capped_mono : (w : Option Window) (m n : ℕ) → m ≤ n → capped w g m ≤ capped w g n
  capped_mono None m n h = h
  capped_mono (Some w) m n h = omega (arith, h)

  index_mono : (u t : ℕ) → u ≤ t → index_of g o u ≤ index_of g o t
  index_mono u t h = capped_mono g.window (intervals_to g o u) (intervals_to g o t) (div_mono ((u + early g) - o) ((t + early g) - o) g.interval is.some (omega (arith, h)))

  -- the indexes of the epochs at these times
  covered_times : (q : Placed) (xs ts : List ℕ) (u k : ℕ) → Covered xs q.place k → q.place ≤ index_of g o u + 1 → Rise u ts
      → Covered (xs ++ map (index_of g o) ts) (last_placed q (map (placed g o) ts)).place (k + missing_from q (map (placed g o) ts))
  covered_times q xs [] u k c h rise = subst (λ (l : List ℕ). Covered l q.place (k + 0)) (sym (append-nil xs)) (subst (λ (n : ℕ). Covered xs q.place n) (omega arith) c)
  covered_times q xs (t ∷ ts) u k c h rise =
      let j = index_of g o t in
      let step = covered_more j c (omega (arith, h, index_mono u t rise.0)) in
      let rest = covered_times (placed g o t) (xs ++ j ∷ []) ts t _ step (omega arith) rise.1 in
      let sum : (k + (((j + 1) - q.place) - 1)) + missing_from (placed g o t) (map (placed g o) ts) ≡ k + (missing_between q (placed g o t) + missing_from (placed g o t) (map (placed g o) ts)) = omega arith in
      subst (λ (l : List ℕ). Covered l (last_placed (placed g o t) (map (placed g o) ts)).place (k + missing_from q (map (placed g o) (t ∷ ts)))) (append_assoc xs (j ∷ []) (map (index_of g o) ts))
      (subst (λ (n : ℕ). Covered ((xs ++ j ∷ []) ++ map (index_of g o) ts) (last_placed (placed g o t) (map (placed g o) ts)).place n) sum rest)

  all_covered : (ts : List ℕ) → Rise 0 ts → Covered (map (index_of g o) ts) (last_placed (start o) (map (placed g o) ts)).place (missing_from (start o) (map (placed g o) ts))
  all_covered ts rise =
      let missing = missing_from (start o) (map (placed g o) ts) in
      subst (λ (n : ℕ). Covered (map (index_of g o) ts) (last_placed (start o) (map (placed g o) ts)).place n) (zero-add missing)
      (covered_times (start o) [] ts 0 0 none_covered (omega arith) rise)

  -- few places are missing before the last epoch
  capped_least : (w : Option Window) (n : ℕ) → capped w g n ≤ n
  capped_least None n = omega arith
  capped_least (Some w) n = omega arith

  index_small : (t : ℕ) → index_of g o t ≤ t + 500
  index_small t = grind (arith, common_steps, capped_least, div-le_self)

  few_missing : (ts : List ℕ) (time : ℕ) → Rise 0 (ts ++ time ∷ []) → missing_from (start o) (map (placed g o) (ts ++ time ∷ [])) ≤ time + 501
  few_missing ts time rise = grind (arith, common_steps, all_covered, last_is, index_small)

pub missing_small : (complete : Option Completeness) (ts : List ℕ) (time : ℕ) → IfSome complete IsCompleteness → Rise 0 (ts ++ time ∷ []) → missing_if complete (ts ++ time ∷ []) ≤ time + 501
missing_small None ts time is rise = omega arith
missing_small (Some g) ts time is rise = few_missing g is (origin_of g (ts ++ time ∷ [])) ts time rise

-- the gaps of the first epochs are the first ones
pub gaps_prefix : (complete : Option Completeness) (ts us : List ℕ) → (tail : List ℕ) × (all_gaps_if complete (ts ++ us) ≡ gaps_if complete ts ++ tail)
gaps_prefix None ts us = ([], refl)
gaps_prefix (Some g) [] us = (all_gaps g us, refl)
gaps_prefix (Some g) (t ∷ ts) us =
    let o = origin_of g (t ∷ ts) in
    let first = map (placed g o) (t ∷ ts) in
    let more = map (placed g o) us ++ ends_in g.window g.interval in (
      gaps_from (last_placed (start o) first) more,
      ap (gaps_from (start o)) (ap (λ l. l ++ ends_in g.window g.interval) (map-append (placed g o) (t ∷ ts) us) ∙ append_assoc first (map (placed g o) us) (ends_in g.window g.interval))
          ∙ gaps_split (start o) first more,
    )

-- ---- a whole file

-- the line of a gap isn't empty
gap_some : (last time : ℕ) → gap_line last time ≡ [] → ⊥
unfolding gap_line
gap_some last time e = absurd cc

-- no line is printed exactly if no place is missing
no_gap : (p q : Placed) → gap_between p q ≡ [] → missing_between p q ≡ 0
no_gap p q none = grind (arith, common_steps, gap_some, ltb-false)

pub none_missing : (p q : Placed) → missing_between p q ≡ 0 → gap_between p q ≡ []
none_missing p q none = grind (arith, common_steps, ltb-true)

-- the line of a gap after a text
pub gap_is : (old : List ℕ) (p q : Placed) {start first second text : List ℕ} → p.place + 1 < q.place → start ≡ old ++ codes "gap" → first ≡ with_words start (moment_words p.time) → second ≡ with_words first (moment_words q.time)
    → text ≡ second ++ 0x0A ∷ [] → text ≡ old ++ gap_between p q
unfolding gap_line
gap_is old p q far starts first second ends =
    end_line old (codes "gap") (moment_words p.time ++ moment_words q.time) ends (second ∙ ap (λ (t : List ℕ). with_words t (moment_words q.time)) (first ∙ ap (λ (t : List ℕ). with_words t (moment_words p.time)) starts))
    ∙ ap (λ (l : List ℕ). old ++ l) (sym (ap (λ (b : Bool). cond b (gap_line p.time q.time) []) (lt-ltb (p.place + 1) q.place far)))

no_gaps : (p : Placed) (qs : List Placed) → gaps_from p qs ≡ [] → missing_from p qs ≡ 0
no_gaps p [] none = refl
no_gaps p (q ∷ qs) none =
    let first = no_gap p q (left_nil (gap_between p q) (gaps_from q qs) none) in
    let rest = no_gaps q qs (right_nil (gap_between p q) (gaps_from q qs) none) in
    omega (arith, first, rest) where
      left_nil : (xs ys : List ℕ) → xs ++ ys ≡ [] → xs ≡ []
      left_nil [] ys e = refl
      left_nil (x ∷ xs) ys e = absurd cc

      right_nil : (xs ys : List ℕ) → xs ++ ys ≡ [] → ys ≡ []
      right_nil [] ys e = e
      right_nil (x ∷ xs) ys e = absurd cc

none_missing_from : (p : Placed) (qs : List Placed) → missing_from p qs ≡ 0 → gaps_from p qs ≡ []
none_missing_from p [] none = refl
none_missing_from p (q ∷ qs) none = grind (arith, common_steps, none_missing, none_missing_from q qs (omega (arith, none)))

module _ (g : Completeness) (ts : List ℕ) (t : EpochTimes) (are : AreTimes ts t) where
  last_of_all : last_placed (start (origin_of g ts)) (all_placed g ts) ≡ placed g (origin_of g ts) t.last
  last_of_all = last_of g ts (Some t) (origin_of g ts) are

  origin_is : origin_of g ts ≡ origin_in g.window t.first
  origin_is = ap (λ (l : List ℕ). origin_of g l) are.first.1

  end_is : last_placed (start (origin_of g ts)) (all_placed g ts) ≡ placed g (origin_in g.window t.first) t.last
  end_is = last_of_all ∙ ap (λ (n : ℕ). placed g n t.last) origin_is

  pub all_gaps_are : all_gaps g ts ≡ gaps_before g ts ++ gaps_to_end g t
  all_gaps_are = grind (arith, common_steps, gaps_split, end_is)

  all_missing : missing_from (start (origin_of g ts)) (all_placed g ts ++ ends_in g.window g.interval) ≡ missing_before g ts + missing_to_end g t
  all_missing = grind (arith, common_steps, missing_split, end_is)

  -- the indexes of the file and those that are missing are all
  pub number_and_missing : IsCompleteness g → Rise 0 ts → number_among (indexes_of g ts) (size_of g t) + (missing_before g ts + missing_to_end g t) ≡ size_of g t
  number_and_missing is rise = by g.window refl where
    o : ℕ
    o = origin_in g.window t.first

    c : Covered (indexes_of g ts) (index_of g o t.last + 1) (missing_before g ts)
    c = subst (λ p. Covered (indexes_of g ts) p.place (missing_before g ts)) end_is (all_covered g is (origin_of g ts) ts rise)

    goal : Option Window → Type 0
    goal w = number_among (indexes_of g ts) (size_in w g o t.last) + (missing_before g ts + missing_from (placed g o t.last) (ends_in w g.interval)) ≡ size_in w g o t.last

    by : (w : Option Window) → g.window ≡ w → number_among (indexes_of g ts) (size_of g t) + (missing_before g ts + missing_to_end g t) ≡ size_of g t
    by None e = subst goal (sym e) (let all = c.sum (index_of g o t.last + 1) (omega arith) in omega (arith, all))
    by (Some w) e =
        let fits : w.from + g.interval ≤ w.until = subst (λ (x : Option Window). IfSome x (λ y. y.from + g.interval ≤ y.until)) e is.window in
        let some : 1 ≤ window_size g.interval w = (le-div_iff_mul-le {k = g.interval} {x = 1} {y = w.until - w.from} is.some).1 (omega (arith, fits)) in
        let within : index_of g o t.last ≤ window_size g.interval w - 1 = subst (λ (x : Option Window). capped x g (intervals_to g o t.last) ≤ window_size g.interval w - 1) (sym e) (omega arith) in
        let all = c.sum (window_size g.interval w) (omega (arith, some, within)) in
        subst goal (sym e) (omega (arith, all, some, within))

pub counts_what_is_there : CountsWhatIsThere
counts_what_is_there g v t is file are =
    let ts = times_in v.epochs in
    let n = number_among (indexes_of g ts) (size_of g t) in
    let all : n + (missing_before g ts + missing_to_end g t) ≡ size_of g t = number_and_missing g ts t are is (rises_from ts file.rising) in
    let none : missing_from (start (origin_of g ts)) (all_placed g ts ++ ends_in g.window g.interval) ≡ missing_before g ts + missing_to_end g t = all_missing g ts t are in
    record {
      few = omega (arith, all);
      none = λ same. none_missing_from (start (origin_of g ts)) (all_placed g ts ++ ends_in g.window g.interval) (omega (arith, none, all, same));
      all = λ gone. let zero = no_gaps (start (origin_of g ts)) (all_placed g ts ++ ends_in g.window g.interval) gone in omega (arith, none, all, zero);
    }

-- the gaps of a whole file, and the number of its epochs
file_gaps : (complete : Option Completeness) (ts : List ℕ) (t : EpochTimes) {missing after : ℕ} → IfSome complete IsCompleteness → Rise 0 ts → AreTimes ts t → CountsMissing complete ts missing → after ≡ end_missing_if complete t
    → (all_gaps_if complete ts ≡ gaps_if complete ts ++ end_gap_if complete t) × (complete_if complete ts t ≡ complete_but complete t missing after)
unfolding complete_line line_but
file_gaps None ts t is rise are counted rest = grind (arith, common_steps)
file_gaps (Some g) ts t {missing} {after} is rise are counted rest = grind (arith, common_steps, number_and_missing, all_gaps_are)

-- what is written at the end of a file
pub end_output : (o : CheckOptions) (v : FileValue) (t : EpochTimes) {missing after : ℕ} {first counts times text : List ℕ} → IfSome o.complete IsCompleteness → IsFileValue v → AreTimes (times_in v.epochs) t
    → CountsMissing o.complete (times_in v.epochs) missing → first ≡ end_gap_if o.complete t → after ≡ end_missing_if o.complete t
    → counts ≡ first ++ check_line v → times ≡ counts ++ times_if o.times t → text ≡ times ++ complete_but o.complete t missing after → IsEndOutput o v t text
end_output o v t {missing} {after} {first} {counts} {times} {text} is file are counted gap rest count time whole =
    let ts = times_in v.epochs in
    let (gaps, numbers) = file_gaps o.complete ts t is (rises_from ts file.rising) are counted rest in
    let end : List ℕ = complete_but o.complete t missing after in
    ap₂ (λ (x y : List ℕ). x ++ ((check_line v ++ times_if o.times t) ++ y)) gaps numbers
    ∙ append_assoc (gaps_if o.complete ts) (end_gap_if o.complete t) ((check_line v ++ times_if o.times t) ++ end)
    ∙ ap (λ (l : List ℕ). gaps_if o.complete ts ++ l)
    (sym (append_assoc (end_gap_if o.complete t) (check_line v ++ times_if o.times t) end)
    ∙ ap (λ (l : List ℕ). l ++ end) (sym (append_assoc (end_gap_if o.complete t) (check_line v) (times_if o.times t)) ∙ ap (λ (l : List ℕ). (l ++ check_line v) ++ times_if o.times t) (sym gap) ∙ ap (λ (l : List ℕ). l ++ times_if o.times t) (sym count) ∙ sym time)
    ∙ sym whole)

-- the line of the counts after a text
pub counts_are : (v : FileValue) (old : List ℕ) {a b c d e : List ℕ} {n : Counts} → AreCounts n v → a ≡ old ++ codes "epochs" → b ≡ a ++ 0x20 ∷ decimal n.epochs → c ≡ (b ++ 0x20 ∷ codes "satellites") ++ 0x20 ∷ decimal n.satellites
    → d ≡ (c ++ 0x20 ∷ codes "events") ++ 0x20 ∷ decimal n.events → e ≡ d ++ 0x0A ∷ [] → e ≡ old ++ check_line v
unfolding check_line
counts_are v old are e1 e2 e3 e4 e5 = grind (arith, common_steps, end_line)
