-- The output of the command `quality`. Times and periods are in milliseconds.
use Rattle.std.specs.Prelude.{ℕ, ◌+◌, ◌-◌, ◌*◌, ◌/◌, ◌==◌, nat_lt, min, List, [], ◌∷◌, ◌++◌, codes, decimal}
use Rattle.std.specs.Prelude.{filter, flat_map, get_or, Option, Some, None, if◌then◌else◌}
use Rattle.std.specs.List.{count_by, sum_by}
use Rattle.gnss_obs.specs.Dates.{civil_of}
use Rattle.gnss_obs.specs.Plans.{below}
use Rattle.gnss_obs.specs.Rounding.{nearest_size}
use Rattle.gnss_obs.specs.Values.{PlanValue, planned_of}
use Rattle.gnss_obs.specs.Weeks.{week, weeks}
use Rattle.gnss_system.specs.declared.system.System.{System}
use Rattle.gnss_system.specs.Satellites.{letter, number_of, satellites}
use Rattle.gnss_system.specs.Signals.{code_of}
use Rattle.gnss_system.specs.Systems.{systems}
use Rattle.line_texts.specs.Digits.{two_digits}
use Rattle.line_texts.specs.Lines.{line}
use Rattle.rinex_file.specs.FileValues.{planned_in}
use Rattle.rinex_file.specs.Value.{FileValue, Stamped}
use Rattle.rinex_inspect.specs.CheckOutput.{check_line, times_in}
use Rattle.rinex_inspect.specs.DateTexts.{clock_text, date_text, thousandths_text}
use Rattle.rinex_inspect.specs.Tallies.{has_values, last_of, presence_of, satellite_at, tally_of, total}
use Rattle.rinex_inspect.specs.declared.tally.Presence.{Presence}
use Rattle.rinex_inspect.specs.declared.tally.Tally.{Tally}

-- ---- words

-- a time in one word
unfoldable pub time_word : ℕ → List ℕ
time_word t = date_text (civil_of t) ++ codes "T" ++ clock_text (civil_of t)

-- the letter of a system, and the number of a satellite
abbrev pub satellite_word : System → ℕ → List ℕ
satellite_word s i = letter s ∷ two_digits (number_of s (i + 1))

-- the code of the planned signal at index k
abbrev pub code_at : PlanValue → System → ℕ → List ℕ
code_at plan s k = code_of (record { system = s; index = get_or (planned_of s plan) k 0 })

-- the mean strength in dB-Hz, rounded to the nearest thousandth, ties up
abbrev pub mean_text : Tally → List ℕ
mean_text t = if t.s == 0 then codes "-" else thousandths_text (nearest_size t.strength t.s)

abbrev pub tally_words : Tally → List (List ℕ)
tally_words t =
    codes "c" ∷ decimal t.c ∷ codes "l" ∷ decimal t.l ∷ codes "d" ∷ decimal t.d ∷ codes "s" ∷ decimal t.s
    ∷ codes "lost" ∷ decimal t.lost ∷ codes "half" ∷ decimal t.half ∷ codes "mean" ∷ mean_text t ∷ []

-- ---- lines

-- what satellites have: the tally of the planned signal at index k of the satellite at an index of its system, and the
-- epochs of that satellite
pub record Contents : Type 0 where
  pub tallies : System → ℕ → ℕ → Tally
  pub presences : System → ℕ → Presence

abbrev pub contents_of : List Stamped → Contents
contents_of es = record {
  tallies = λ s i k. tally_of (satellite_at s i) k es;
  presences = λ s i. presence_of (satellite_at s i) es;
}

-- the number of satellites with a value of a signal, and the sum of their tallies
unfoldable pub signal_line : PlanValue → Contents → System → ℕ → List ℕ
signal_line plan has s k = line (
    codes "signal" ∷ (letter s ∷ []) ∷ code_at plan s k
    ∷ codes "satellites" ∷ decimal (count_by (λ i. has_values (has.tallies s i k)) (below (satellites s)))
    ∷ tally_words (total (λ i. has.tallies s i k) (satellites s)))

-- the number of phases of a satellite at which lock was lost
abbrev pub lost_in : PlanValue → Contents → System → ℕ → ℕ
lost_in plan has s i = sum_by (λ k. (has.tallies s i k).lost) (below (planned_in plan s))

abbrev pub presence_words : Presence → List (List ℕ)
presence_words p =
    codes "epochs" ∷ decimal p.epochs ∷ codes "of" ∷ decimal p.span
    ∷ codes "first" ∷ time_word p.first ∷ codes "last" ∷ time_word p.last ∷ []

-- the epochs of a satellite, and its losses of lock
unfoldable pub present_line : PlanValue → Contents → System → ℕ → List ℕ
present_line plan has s i = line (
    codes "satellite" ∷ satellite_word s i
    ∷ (presence_words (has.presences s i) ++ codes "lost" ∷ decimal (lost_in plan has s i) ∷ []))

-- a satellite that has a line
abbrev pub satellite_line : PlanValue → Contents → System → ℕ → List ℕ
satellite_line plan has s i =
    if nat_lt 0 (has.presences s i).epochs then present_line plan has s i else []

-- the tally of a satellite and signal with a value in a period that begins at this time
unfoldable pub tally_line : PlanValue → (start : ℕ) → Tally → System → (i k : ℕ) → List ℕ
tally_line plan start t s i k =
    line (time_word start ∷ satellite_word s i ∷ code_at plan s k ∷ tally_words t)

abbrev pub period_line : PlanValue → (start : ℕ) → Contents → System → (i k : ℕ) → List ℕ
period_line plan start has s i k =
    if has_values (has.tallies s i k) then tally_line plan start (has.tallies s i k) s i k else []

-- the texts of the indexes below n
abbrev pub texts_below : (ℕ → List ℕ) → ℕ → List ℕ
texts_below f n = flat_map f (below n)

abbrev pub signal_lines : PlanValue → Contents → List ℕ
signal_lines plan has = flat_map (λ s. texts_below (signal_line plan has s) (planned_in plan s)) systems

abbrev pub satellite_lines : PlanValue → Contents → List ℕ
satellite_lines plan has = flat_map (λ s. texts_below (satellite_line plan has s) (satellites s)) systems

abbrev pub period_lines : PlanValue → (start : ℕ) → Contents → List ℕ
period_lines plan start has = flat_map (λ s. texts_below (λ i.
    texts_below (period_line plan start has s i) (planned_in plan s)) (satellites s)) systems

-- ---- periods

-- the number of the period of an epoch at this time: that of the time 50 ms later, within the weeks; without a length
-- of periods all epochs are in one
abbrev pub period_of : Option ℕ → (time : ℕ) → ℕ
period_of None t = 0
period_of (Some n) t = min (t + 50) (weeks * week - 1) / n

-- the period of the last epoch
abbrev pub last_period : Option ℕ → List Stamped → ℕ
last_period every es = period_of every (last_of (times_in es))

-- the epochs of a period
abbrev pub in_period : Option ℕ → ℕ → List Stamped → List Stamped
in_period every p es = filter (λ e. period_of every e.time == p) es

-- the lines of the epochs of a period; there are none without an epoch
abbrev pub lines_of : PlanValue → Option ℕ → List Stamped → ℕ → List ℕ
lines_of plan None es p = []
lines_of plan (Some n) es p = period_lines plan (p * n) (contents_of (in_period (Some n) p es))

-- the lines of all periods before that of the last epoch
abbrev pub lines_before : PlanValue → Option ℕ → List Stamped → List ℕ
lines_before plan every es = texts_below (lines_of plan every es) (last_period every es)

-- what is printed of a file: the counts, the signals and the satellites; or the lines of periods of a length
abbrev pub quality_output : Option ℕ → FileValue → List ℕ
quality_output None v =
    check_line v ++ signal_lines v.plan (contents_of v.epochs) ++ satellite_lines v.plan (contents_of v.epochs)
quality_output (Some n) v = texts_below (lines_of v.plan (Some n) v.epochs) (last_period (Some n) v.epochs + 1)
