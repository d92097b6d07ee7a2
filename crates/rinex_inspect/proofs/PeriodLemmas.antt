-- The periods of epochs, and the lines of those before the last one.
use Rattle.rinex_inspect.proofs.Names.{common_steps, ◌≡◌, ◌∙◌, ◌+◌, ◌-◌, ◌*◌, ◌<◌, ◌≤◌, ◌==◌, ◌++◌, ◌∷◌, [], ℕ, false, zero, suc, List, Option, Some, None, refl, ap, arith, append-nil, IfSome, IsStrictlyIncreasing, eq-eqb, map-append, div-mul-le_self, PlanValue, week, weeks, time_stamped, Stamped, times_in, contents_of, in_period, last_period, lines_before, lines_of, period_lines, period_of, texts_below, last_of, IsInterval}
use Rattle.rinex_inspect.proofs.ContentsLemmas.{none_in_period}
use Rattle.rinex_inspect.proofs.MissingLemmas.{div_mono}
use Rattle.rinex_inspect.proofs.PresenceLemmas.{filter_no, filter_yes, last_is}
use Rattle.rinex_inspect.proofs.SumLemmas.{texts_more, texts_same}
use Rattle.rinex_inspect.proofs.TableSteps.{rise_tail}

-- a length of periods, if there is one
abbrev pub IsEvery : Option ℕ → Type 0
IsEvery every = IfSome every IsInterval

period_mono : (every : Option ℕ) (t u : ℕ) → IsEvery every → t ≤ u → period_of every t ≤ period_of every u
period_mono every t u is h = grind (arith, common_steps, div_mono)

-- the begin of a period is within the weeks
pub start_within : (every : Option ℕ) (t : ℕ) → IsEvery every → IfSome every (λ n. period_of every t * n < weeks * week)
start_within every t is = grind (arith, common_steps, div-mul-le_self)

last_with : (es : List Stamped) (e : Stamped) → last_of (times_in (es ++ e ∷ [])) ≡ e.time
last_with es e = ap last_of (map-append time_stamped es (e ∷ [])) ∙ last_is (times_in es) e.time

pub period_with : (every : Option ℕ) (es : List Stamped) (e : Stamped) → last_period every (es ++ e ∷ []) ≡ period_of every e.time
period_with every es e = ap (period_of every) (last_with es e)

pub none_first : (every : Option ℕ) → IsEvery every → 0 ≡ last_period every []
none_first every is = grind (arith, common_steps, div-mul-le_self)

-- the last epoch is in the greatest period
last_least : (es : List Stamped) (e : Stamped) → IsStrictlyIncreasing (times_in (es ++ e ∷ [])) → last_of (times_in es) ≤ e.time
last_least [] e rise = omega arith
last_least (x ∷ []) e rise = let less = rise 0 (omega arith) in omega (arith, less)
last_least (x ∷ (y ∷ es)) e rise = last_least (y ∷ es) e (rise_tail x.time (times_in ((y ∷ es) ++ e ∷ [])) rise)

pub period_rises : (every : Option ℕ) (es : List Stamped) (e : Stamped) → IsEvery every → IsStrictlyIncreasing (times_in (es ++ e ∷ [])) → last_period every es ≤ period_of every e.time
period_rises every es e is rise = period_mono every (last_of (times_in es)) e.time is (last_least es e rise)

-- no epoch is in a later period
first_least : (es : List Stamped) (x : Stamped) → IsStrictlyIncreasing (times_in (x ∷ es)) → x.time ≤ last_of (times_in (x ∷ es))
first_least [] x rise = omega arith
first_least (y ∷ es) x rise = let less = rise 0 (omega arith) in let rest = first_least es y (rise_tail x.time (times_in (y ∷ es)) rise) in omega (arith, less, rest)

pub none_later : (every : Option ℕ) (p : ℕ) (es : List Stamped) → IsEvery every → IsStrictlyIncreasing (times_in es) → last_period every es < p → in_period every p es ≡ []
none_later every p [] is rise less = refl
none_later every p (x ∷ []) is rise less = rw (apart (period_of every x.time) p less) refl where
  apart : (a b : ℕ) → a < b → (a == b) ≡ false
  apart a b h = grind (arith, h)
none_later every p (x ∷ (y ∷ es)) is rise less =
    let first = period_mono every x.time (last_of (times_in (x ∷ (y ∷ es)))) is (first_least (y ∷ es) x rise) in
    rw (apart (period_of every x.time) p (omega (arith, first, less))) (none_later every p (y ∷ es) is (rise_tail x.time (times_in (y ∷ es)) rise) less) where
      apart : (a b : ℕ) → a < b → (a == b) ≡ false
      apart a b h = grind (arith, h)

-- the epochs of a period, with one epoch more
pub period_same : (every : Option ℕ) (p : ℕ) (es : List Stamped) (e : Stamped) → period_of every e.time ≡ p → in_period every p (es ++ e ∷ []) ≡ in_period every p es ++ e ∷ []
period_same every p es e same = filter_yes (λ (x : Stamped). period_of every x.time == p) es e (eq-eqb (period_of every e.time) p same)

pub period_other : (every : Option ℕ) (p : ℕ) (es : List Stamped) (e : Stamped) → p < period_of every e.time → in_period every p (es ++ e ∷ []) ≡ in_period every p es
period_other every p es e less = grind (arith, common_steps, filter_no)

-- ---- lines

-- lines of a period without an epoch
none_of : (plan : PlanValue) (every : Option ℕ) (es : List Stamped) (p : ℕ) → in_period every p es ≡ [] → lines_of plan every es p ≡ []
none_of plan None es p none = refl
none_of plan (Some n) es p none = ap (λ (xs : List Stamped). period_lines plan (p * n) (contents_of xs)) none ∙ none_in_period plan (p * n)

of_same : (plan : PlanValue) (every : Option ℕ) (es fs : List Stamped) (p : ℕ) → in_period every p es ≡ in_period every p fs → lines_of plan every es p ≡ lines_of plan every fs p
of_same plan None es fs p same = refl
of_same plan (Some n) es fs p same = ap (λ (xs : List Stamped). period_lines plan (p * n) (contents_of xs)) same

-- the first periods, when the others have no line
texts_end : (f : ℕ → List ℕ) (m d : ℕ) → ((i : ℕ) → m ≤ i → f i ≡ []) → texts_below f (m + d) ≡ texts_below f m
texts_end f m zero none = ap (texts_below f) {x = m + 0} {y = m} (omega arith)
texts_end f m (suc d) none =
    ap (texts_below f) {x = m + suc d} {y = (m + d) + 1} (omega arith) ∙ texts_more f (m + d) ∙ ap (λ (l : List ℕ). texts_below f (m + d) ++ l) (none (m + d) (omega arith)) ∙ append-nil (texts_below f (m + d)) ∙ texts_end f m d none

module _ (plan : PlanValue) (every : Option ℕ) (es : List Stamped) (e : Stamped) (is : IsEvery every) (rise : IsStrictlyIncreasing (times_in (es ++ e ∷ []))) where
  front : lines_before plan every (es ++ e ∷ []) ≡ texts_below (lines_of plan every es) (period_of every e.time)
  front = grind (arith, common_steps, period_with, texts_same, of_same, period_other)

  -- an epoch of the same period
  pub before_same : period_of every e.time ≡ last_period every es → lines_before plan every (es ++ e ∷ []) ≡ lines_before plan every es
  before_same same = front ∙ ap (texts_below (lines_of plan every es)) same

  -- the first epoch of a later period
  pub before_later : IsStrictlyIncreasing (times_in es) → last_period every es < period_of every e.time → lines_before plan every (es ++ e ∷ []) ≡ lines_before plan every es ++ lines_of plan every es (last_period every es)
  before_later rising less =
      let m = last_period every es + 1 in
      front ∙ ap (texts_below (lines_of plan every es)) {x = period_of every e.time} {y = m + (period_of every e.time - m)} (omega (arith, less))
      ∙ texts_end (lines_of plan every es) m (period_of every e.time - m) (λ p most. none_of plan every es p (none_later every p es is rising (omega (arith, most)))) ∙ texts_more (lines_of plan every es) (last_period every es)
